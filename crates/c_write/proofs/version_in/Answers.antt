-- `version_in` answers `version_of_c`. Assumes nothing.
use Rattle.c_write.proofs.version_in.Goals as goal

pub returns : goal.returns
returns c = rw (c.part_in.ensures, c.part_in-2.ensures)
