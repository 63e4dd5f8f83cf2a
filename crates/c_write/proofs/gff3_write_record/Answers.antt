-- `gff3_write_record` writes as `write_record` does. Assumes nothing.
use Rattle.c_answers.proofs.AnswersLaws.{as_c}
use Rattle.c_write.proofs.gff3_write_record.Goals as goal

pub returns : goal.returns
returns c = as_c _ c.written_of.ensures c.write_record.ensures
