-- `gff3_end` answers `c_position` of what is read. Assumes nothing.
use Rattle.c_end.proofs.gff3_end.Goals as goal

pub returns : goal.returns
returns c = rw (c.position_of.ensures, c.end_at.ensures, c.bounds_in.ensures)
