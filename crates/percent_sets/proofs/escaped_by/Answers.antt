-- `escaped_by` answers `escapes_by`. Assumes nothing.
use Rattle.percent_sets.proofs.escaped_by.Goals as goal

pub returns : goal.returns
returns c = rw c.least_class.ensures
