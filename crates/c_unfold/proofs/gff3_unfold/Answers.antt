-- `gff3_unfold` unfolds as `unfold` does. Assumes nothing.
use Rattle.c_answers.proofs.AnswersLaws.{as_c}
use Rattle.c_unfold.proofs.gff3_unfold.Goals as goal

pub returns : goal.returns
returns c = as_c _ c.unfolded_of.ensures c.unfold.ensures
