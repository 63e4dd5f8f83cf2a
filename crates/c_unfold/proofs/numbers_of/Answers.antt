-- `numbers_of` answers `c_numbers`. Assumes nothing.
use Rattle.c_unfold.proofs.numbers_of.Goals as goal

pub returns : goal.returns
returns c = rw (c.strand_number.ensures, c.phase_number.ensures)
