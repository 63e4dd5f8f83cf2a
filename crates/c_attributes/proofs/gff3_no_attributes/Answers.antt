-- `gff3_no_attributes` answers the test as a number. Assumes nothing.
use Rattle.c_attributes.proofs.BitLaws.{as_number}
use Rattle.c_attributes.proofs.gff3_no_attributes.Goals as goal

pub returns : goal.returns
returns c = rw (as_number, c.is_empty.ensures)
