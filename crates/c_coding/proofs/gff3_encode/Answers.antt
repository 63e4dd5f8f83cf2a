-- `gff3_encode` writes as `encode` does, by the set of the number. Assumes nothing.
use Rattle.c_answers.proofs.AnswersLaws.{as_c}
use Rattle.c_coding.proofs.gff3_encode.Goals as goal

pub returns : goal.returns
returns c = as_c _ c.written_of.ensures (rw c.set_of.ensures at c.encode.ensures)
