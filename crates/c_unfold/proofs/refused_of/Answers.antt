-- `refused_of` answers `c_refused`. Assumes nothing.
use Rattle.c_unfold.proofs.refused_of.Goals as goal

pub returns : goal.returns
returns c = rw c.written_of-answer.ensures
