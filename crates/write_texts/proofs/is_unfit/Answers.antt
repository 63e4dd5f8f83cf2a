-- `is_unfit` answers `unfit`: no byte, or white space. Assumes nothing.
use Rattle.write_texts.proofs.is_unfit.Goals as goal

pub returns : goal.returns
returns c = rw c.is_spaced.ensures
