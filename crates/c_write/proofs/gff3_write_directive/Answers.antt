-- `gff3_write_directive` writes as `write_directive` does, by the value that C hands in. Assumes nothing.
use Rattle.c_answers.proofs.AnswersLaws.{as_c}
use Rattle.c_write.proofs.gff3_write_directive.Goals as goal

pub returns : goal.returns
returns c = as_c _ c.written_of.ensures (rw c.value_in.ensures at c.write_directive-written.ensures)
