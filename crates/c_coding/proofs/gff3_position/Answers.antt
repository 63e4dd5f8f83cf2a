-- `gff3_position` answers `c_position` of what is read. Assumes nothing.
use Rattle.c_coding.proofs.gff3_position.Goals as goal

pub returns : goal.returns
returns c = rw (← c.position_of.ensures) c.position_of-2.ensures
