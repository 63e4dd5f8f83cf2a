-- `gff3_end_parts` answers as `end_parts` does, and leaves the hold as it does. Assumes nothing.
use Rattle.c_answers.proofs.AnswersLaws.{as_c}
use Rattle.c_parts.proofs.gff3_end_parts.Goals as goal

pub returns : goal.returns
returns c = as_c _ c.part_of.ensures (rw c.state_in.ensures at c.end_parts.ensures)
