-- `refusal_behind`: 23 where the sheet has not the form, else what its fields give. Assumes nothing.
use mathlib.Core.Path.{sym, ◌∙◌}
use borrow.Author.Tests.{le-ltb}
use Rattle.base_buffer.specs.Answer.{unless}
use Rattle.write_measure.specs.Record.{record_reasons}
use Rattle.write_measure.proofs.MeasuredLaws.{got, found}
use Rattle.write_measure.proofs.measuring.refusal_behind.Goals as goal

pub returns-then-not-form : goal.returns-then-not-form
unfolding record_reasons unless
returns-then-not-form c = rw (le-ltb _ _ c.requires.0, ← c.requires.1, c.if-not-form.true)

pub returns : goal.returns
returns c =
    let g = got _ (sym c.requires.1 ∙ c.if-not-form.false) in
    c.fault.ensures.met g.0 g.1 ∙ rw (found _ _ _ _ _ g.0 (le-ltb _ _ c.requires.0) g.1)
