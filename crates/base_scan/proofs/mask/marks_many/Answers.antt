-- `marks_many`: m is the mask of the bytes before i; the last window is read with its lowest digits shifted out. Assumes nothing.
use mathlib.Core.Path.{◌≡◌, refl, sym, ap, ◌∙◌}
use Prim.Native.Nat.{◌+◌, ◌-◌, ◌*◌, ◌/◌, ◌^◌}
use native.Mathlib.Omega.{arith}
use lib.ListN.{length, take}
use lib.Seq.{take_all, length-take-le}
use Rattle.base_scan.specs.Mask.{mask}
use Rattle.base_scan.proofs.MaskLaws.{mask_more, mask_whole, mask_fits, mask_tail}
use Rattle.base_scan.proofs.mask.marks_many.Goals as goal
use Rattle.base_scan.proofs.mask.marks_many.Goals.{After-mask16, After-mask16-then-i-n}

-- a window in the loop: its digits stand above those of the bytes before it
window : (c : After-mask16)
    → let a = c.args in
    c.loop-i.m + 2 ^ c.loop-i.i * c.mask16.result ≡ mask a.b (take (c.loop-i.i + 16) a.s.now)
window c =
    let a = c.args in
    rw (c.loop-i.invariant.1, c.mask16.ensures.0) (sym (mask_more a.b c.loop-i.i 16 a.s.now (omega arith)))

-- the last window's digits from i on
rest : (c : After-mask16-then-i-n)
    → let a = c.args in
    c.loop-i.m + 2 ^ c.loop-i.i * (c.mask16-then-i-n.result / 2 ^ (c.loop-i.i - (length a.s.now - 16))) ≡ mask a.b a.s.now
rest c =
    let a = c.args in
    rw (
      c.loop-i.invariant.1,
      mask_tail a.b 16 c.loop-i.i a.s.now (omega arith) (omega arith) c.mask16-then-i-n.ensures.0,
    ) (sym (mask_whole a.b c.loop-i.i a.s.now (omega arith)))

pub loop-i-init : goal.loop-i-init
unfolding mask
loop-i-init c = (omega arith, refl)

pub above-m-requires : goal.above-m-requires
above-m-requires c =
    let a = c.args in
    let n : length (take (c.loop-i.i + 16) a.s.now) ≡ c.loop-i.i + 16 = length-take-le _ _ (omega arith) in
    (omega arith, rw (window (goal.at.above-m-requires c).After-mask16) (mask_fits a.b 64 (take (c.loop-i.i + 16) a.s.now) (omega arith)))

pub loop-i-preserved : goal.loop-i-preserved
loop-i-preserved c = (omega arith, c.above-m.ensures ∙ window (goal.at.loop-i-preserved c).After-mask16)

pub above-m-requires-then-i-n : goal.above-m-requires-then-i-n
above-m-requires-then-i-n c =
    let a = c.args in
    (omega arith, rw (rest (goal.at.above-m-requires-then-i-n c).After-mask16-then-i-n) (mask_fits a.b 64 a.s.now (omega arith)))

pub returns-then-i-n : goal.returns-then-i-n
returns-then-i-n c = c.above-m-then-i-n.ensures ∙ rest (goal.at.returns-then-i-n c).After-mask16-then-i-n

pub returns-else-i-n : goal.returns-else-i-n
returns-else-i-n c =
    let a = c.args in
    c.loop-i.invariant.1 ∙ ap (mask a.b) (take_all c.loop-i.i a.s.now (omega arith))
