-- `decodes_to`: what is left of the text is to be what is left of the plain one. Assumes nothing.
use native.Mathlib.Omega.{arith}
use mathlib.Core.Path.{refl, sym, ◌∙◌}
use Rattle.percent_decode.proofs.CursorLaws.{decoded_end}
use Rattle.base_words.proofs.SameLaws.{same_on, same_off, same_short, same_end}
use Rattle.percent_decode.proofs.decodes_to.Goals as goal

pub loop-i-init : goal.loop-i-init
loop-i-init c = (omega arith, omega arith, refl)

pub returns-then-j-plain : goal.returns-then-j-plain
returns-then-j-plain c =
    let a = c.args in
    sym (c.loop-i.invariant.2 ∙ same_short _ _ _ a.plain.now c.loop-i.j c.decode_at-unit.ensures.first c.if-j-plain.true)

pub returns-then-plain-j : goal.returns-then-plain-j
returns-then-plain-j c =
    let a = c.args in
    sym (c.loop-i.invariant.2 ∙ same_off _ _ _ a.plain.now c.loop-i.j c.decode_at-unit.ensures.first (omega arith) c.if-plain-j.true)

pub loop-i-preserved : goal.loop-i-preserved
loop-i-preserved c =
    let a = c.args in (
      omega arith,
      omega arith,
      c.loop-i.invariant.2 ∙ same_on _ _ _ a.plain.now c.loop-i.j c.decode_at-unit.ensures.first (omega arith) c.if-plain-j.false,
    )

pub returns : goal.returns
returns c =
    let a = c.args in
    sym (c.loop-i.invariant.2
    ∙ rw (decoded_end a.s.now c.loop-i.i c.loop-i-test.false) (same_end a.plain.now c.loop-i.j (omega arith)))
