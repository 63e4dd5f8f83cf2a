-- `refusal`: 24 for a sheet that is too long, else what is found behind it. Assumes nothing.
use borrow.Author.Tests.{lt-ltb}
use Rattle.base_buffer.specs.Answer.{unless}
use Rattle.write_measure.specs.Record.{record_reasons}
use Rattle.write_measure.proofs.measuring.refusal.Goals as goal

pub returns-then-sheet-gt-MOST_TEXT : goal.returns-then-sheet-gt-MOST_TEXT
unfolding record_reasons unless
returns-then-sheet-gt-MOST_TEXT c = rw (lt-ltb _ _ c.if-sheet-gt-MOST_TEXT.true)

pub refusal_behind-requires : goal.refusal_behind-requires
refusal_behind-requires c = (c.if-sheet-gt-MOST_TEXT.false, c.is_form-form.ensures)

pub returns : goal.returns
returns c = c.refusal_behind.ensures
