-- `gff3_write_comment` writes as `write_comment` does. Assumes nothing.
use Rattle.c_answers.proofs.AnswersLaws.{as_c}
use Rattle.c_write.proofs.gff3_write_comment.Goals as goal

pub returns : goal.returns
returns c = as_c _ c.written_of.ensures c.write_comment.ensures
