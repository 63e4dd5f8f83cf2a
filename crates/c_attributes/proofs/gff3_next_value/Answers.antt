-- `gff3_next_value` answers `c_next_value`. Assumes nothing.
use Rattle.c_attributes.proofs.BitLaws.{as_number}
use Rattle.c_attributes.proofs.gff3_next_value.Goals as goal

pub returns-in-Some : goal.returns-in-Some
returns-in-Some c = rw (← c.next_value.ensures, c.in-Some.is, as_number)
