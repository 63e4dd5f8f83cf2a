-- `is_blank` answers `is_blank`. Assumes nothing.
use Rattle.read_parts.proofs.state.is_blank.Goals as goal

pub returns : goal.returns
returns c = rw c.is_long.ensures
