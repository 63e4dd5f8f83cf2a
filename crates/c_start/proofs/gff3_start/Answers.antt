-- `gff3_start` answers `c_position` of what is read. Assumes nothing.
use Rattle.c_start.proofs.gff3_start.Goals as goal

pub returns : goal.returns
returns c = rw (c.position_of.ensures, c.start_at.ensures, c.bounds_in.ensures)
