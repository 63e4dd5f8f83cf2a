-- `value_or` answers `value_or`, by what `find_tag` answers. Assumes nothing.
use Rattle.read_lookup.proofs.LookupLaws.{value_in}
use Rattle.read_lookup.proofs.value_or.Goals as goal

pub returns-in-Some : goal.returns-in-Some
returns-in-Some c = rw (value_in _ _ _ c.find_tag.ensures c.unwrap_or.ensures c.in-Some.is) c.text.ensures
