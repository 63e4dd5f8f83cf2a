-- `gff3_take_part` answers as `take_part` does, and leaves the hold as it does. Assumes nothing.
use Rattle.c_answers.proofs.AnswersLaws.{as_c}
use Rattle.c_parts.proofs.gff3_take_part.Goals as goal

pub returns : goal.returns
returns c = as_c _ c.part_of.ensures (rw c.state_in.ensures at c.take_part.ensures)
