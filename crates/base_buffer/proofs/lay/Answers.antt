-- `lay`: what is left to lay is what stands in the text from i on. Assumes nothing.
use mathlib.Core.Path.{refl, sym, ◌∙◌}
use native.Mathlib.Omega.{arith}
use native.Mathlib.Nat.{add-zero}
use lib.ListN.{length-set}
use Rattle.base_buffer.proofs.LaidLaws.{laid_next, laid_over, laid_past}
use Rattle.base_buffer.proofs.lay.Goals as goal

pub returns-then-end-at : goal.returns-then-end-at
returns-then-end-at c = record { left = sym (laid_past _ _ _ c.if-end-at.true); end = omega arith }

pub loop-i-init : goal.loop-i-init
loop-i-init c = (omega arith, refl, rw add-zero)

pub loop-i-preserved : goal.loop-i-preserved
loop-i-preserved c =
    let l = c.loop-i in
    let a = c.args in
    (omega arith, simp length-set c.loop-i.invariant.1, c.loop-i.invariant.2 ∙ laid_next a.s.now c.loop-i.out a.at c.loop-i.i (omega arith))

pub returns : goal.returns
returns c =
    let l = c.loop-i in
    let a = c.args in
    record { left = sym (c.loop-i.invariant.2 ∙ laid_over a.s.now c.loop-i.out a.at c.loop-i.i (omega arith) (omega arith)); end = omega arith }
