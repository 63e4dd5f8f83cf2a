-- `is_bad` answers `bad`. Assumes nothing.
use Rattle.write_measure.proofs.reasons.is_bad.Goals as goal

pub returns : goal.returns
returns c = rw c.is_score.ensures
