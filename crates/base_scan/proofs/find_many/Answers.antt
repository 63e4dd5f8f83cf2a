-- `find_many`: no window before i has b, so the first place is the same from i on; the last window is read with its lowest digits
-- shifted out. Assumes nothing.
use mathlib.Core.Path.{◌≡◌, sym, ap, ◌∙◌}
use Prim.Native.Nat.{◌-◌, ◌/◌, ◌^◌, ◌≤◌}
use native.Mathlib.Omega.{arith}
use lib.ListN.{length, drop}
use lib.Count.{count_trailing_zeros, trailing_le}
use Rattle.base_scan.specs.Find.{is}
use Rattle.base_scan.specs.Mask.{mask}
use Rattle.base_scan.proofs.FindLaws.{seek_end}
use Rattle.base_scan.proofs.MaskLaws.{window_hit, window_none, mask_tail, tail_none, tail_hit}
use Rattle.base_scan.proofs.find_many.Goals as goal
use Rattle.base_scan.proofs.find_many.Goals.{After-mask16}

-- the last window's digits from i on
shifted : (c : After-mask16)
    → let a = c.args in
    c.mask16.result / 2 ^ (c.loop-i.i - (length a.s.now - 16)) ≡ mask a.b (drop c.loop-i.i a.s.now)
shifted c =
    let a = c.args in mask_tail a.b 16 c.loop-i.i a.s.now (omega arith) (omega arith) c.mask16.ensures.0

few : (c : After-mask16)
    → count_trailing_zeros 32 (c.mask16.result / 2 ^ (c.loop-i.i - (length c.args.s.now - 16))) ≤ 32
few c = trailing_le 32 _

pub overflow_cast-result : goal.overflow_cast-result
overflow_cast-result c = omega (arith, trailing_le 32 c.mask16-m.result)

pub overflow_add-result : goal.overflow_add-result
overflow_add-result c = omega (arith, trailing_le 32 c.mask16-m.result)

-- a window in the loop has b, or is passed
pub returns-then-m-ne0 : goal.returns-then-m-ne0
returns-then-m-ne0 c =
    let a = c.args in
    window_hit a.b c.loop-i.i a.s.now (omega arith) c.mask16-m.ensures.0 c.if-m-ne0.true ∙ sym c.loop-i.invariant

pub loop-i-preserved : goal.loop-i-preserved
loop-i-preserved c =
    let a = c.args in
    c.loop-i.invariant ∙ sym (window_none a.b c.loop-i.i a.s.now (omega arith) c.mask16-m.ensures.0 c.if-m-ne0.false)

pub overflow_cast-result-then-m-ne0-2 : goal.overflow_cast-result-then-m-ne0-2
overflow_cast-result-then-m-ne0-2 c = omega (arith, few (goal.at.overflow_cast-result-then-m-ne0-2 c).After-mask16)

pub overflow_add-result-then-m-ne0-2 : goal.overflow_add-result-then-m-ne0-2
overflow_add-result-then-m-ne0-2 c = omega (arith, few (goal.at.overflow_add-result-then-m-ne0-2 c).After-mask16)

pub returns-then-m-ne0-2 : goal.returns-then-m-ne0-2
returns-then-m-ne0-2 c =
    let a = c.args in
    let e = shifted (goal.at.returns-then-m-ne0-2 c).After-mask16 in
    omega
    (arith, c.loop-i.invariant, ap (count_trailing_zeros 32) e, tail_hit a.b c.loop-i.i a.s.now (omega arith) 32 (omega arith) (omega arith))

pub returns-else-m-ne0-2 : goal.returns-else-m-ne0-2
returns-else-m-ne0-2 c =
    let a = c.args in
    let e = shifted (goal.at.returns-else-m-ne0-2 c).After-mask16 in
    sym (c.loop-i.invariant ∙ tail_none a.b c.loop-i.i a.s.now (omega arith) (omega arith))

pub returns-else-i-n : goal.returns-else-i-n
returns-else-i-n c =
    let a = c.args in
    sym (c.loop-i.invariant ∙ seek_end (is a.b) c.loop-i.i a.s.now (omega arith))
