-- `gff3_text` writes as `text` does. Assumes nothing.
use Rattle.c_answers.proofs.AnswersLaws.{as_c}
use Rattle.c_text.proofs.gff3_text.Goals as goal

pub returns : goal.returns
returns c = as_c _ c.written_of.ensures (rw c.bounds_in.ensures at c.text.ensures)
