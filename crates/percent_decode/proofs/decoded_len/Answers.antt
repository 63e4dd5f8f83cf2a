-- `decoded_len`: so many bytes are decoded, and what stands from i on is left. Assumes nothing.
use Prim.Native.Nat.{◌+◌, ◌<◌}
use native.Mathlib.Omega.{arith}
use mathlib.Core.Path.{◌≡◌, ap}
use lib.ListN.{length, drop}
use Rattle.percent_coding.specs.Percent.{decoded}
use Rattle.percent_decode.proofs.CursorLaws.{length_run, decoded_end}
use Rattle.percent_decode.proofs.decoded_len.Goals as goal
use Rattle.percent_decode.proofs.decoded_len.Goals.{After-next_sign-sign}

-- a run, up to the next percent sign
run : (c : After-next_sign-sign)
    → let s = c.args.s.now in
    (c.loop-i.i < c.next_sign-sign.result)
    × (length (decoded (drop c.loop-i.i s)) + c.loop-i.i ≡ c.next_sign-sign.result + length (decoded (drop c.next_sign-sign.result s)))
run c = length_run _ _ _ c.loop-i-test.true c.if-s-i-eq37.false c.next_sign-sign.ensures.first

pub loop-i-init : goal.loop-i-init
loop-i-init c = (omega arith, omega arith, omega arith)

-- an escape, or a percent sign that stays
pub loop-i-preserved-then-s-i-eq37 : goal.loop-i-preserved-then-s-i-eq37
loop-i-preserved-then-s-i-eq37 c = let one = ap length c.decode_at-i.ensures.first in (omega arith, omega arith, omega arith)

pub overflow_sub-n : goal.overflow_sub-n
overflow_sub-n c = omega (arith, run (goal.at.overflow_sub-n c).After-next_sign-sign)

pub overflow_add-n-else-s-i-eq37 : goal.overflow_add-n-else-s-i-eq37
overflow_add-n-else-s-i-eq37 c = omega (arith, run (goal.at.overflow_add-n-else-s-i-eq37 c).After-next_sign-sign)

pub loop-i-smaller : goal.loop-i-smaller
loop-i-smaller c = omega (arith, run (goal.at.loop-i-smaller c).After-next_sign-sign)

pub loop-i-preserved : goal.loop-i-preserved
loop-i-preserved c = let h = run (goal.at.loop-i-preserved c).After-next_sign-sign in (omega arith, omega arith, omega arith)

pub returns : goal.returns
returns c =
    let none = ap length (decoded_end c.args.s.now c.loop-i.i c.loop-i-test.false) in
    (omega arith, omega arith)
