-- `gff3_decode` writes as `decode` does. Assumes nothing.
use Rattle.c_answers.proofs.AnswersLaws.{as_c}
use Rattle.c_coding.proofs.gff3_decode.Goals as goal

pub returns : goal.returns
returns c = as_c _ c.written_of.ensures c.decode.ensures
