-- `marks_few`: m is the mask of the bytes before i. Assumes nothing.
use Rattle.std.proofs.Common.{refl, ◌∙◌, ap, take, arith, ◌+◌}
use lib.Seq.{take_all, length-take-le}
use Rattle.base_scan.specs.Mask.{mask}
use Rattle.base_scan.proofs.MaskLaws.{mask_push, mask_fits}
use Rattle.base_scan.proofs.mask.marks_few.Goals as goal

pub loop-i-init : goal.loop-i-init
unfolding mask
loop-i-init c = refl

pub above-m-requires : goal.above-m-requires
above-m-requires c =
    let a = c.args in
    let n = length-take-le (c.loop-i.i + 1) a.s.now (omega arith) in (
      omega arith,
      rw (c.loop-i.invariant, c.same.ensures.0, mask_push a.b c.loop-i.i a.s.now (omega arith))
          (mask_fits a.b 64 (take (c.loop-i.i + 1) a.s.now) (omega arith)),
    )

pub loop-i-preserved : goal.loop-i-preserved
loop-i-preserved c =
    let a = c.args in
    c.above-m.ensures ∙ rw (c.loop-i.invariant, c.same.ensures.0) (mask_push a.b c.loop-i.i a.s.now (omega arith))

pub returns : goal.returns
returns c = let a = c.args in c.loop-i.invariant ∙ ap (mask a.b) (take_all c.loop-i.i a.s.now (omega arith))
