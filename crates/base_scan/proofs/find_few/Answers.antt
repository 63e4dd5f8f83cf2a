-- `find_few`: the first place of what stands from the cursor on. Assumes nothing.
use Rattle.std.proofs.Common.{sym, ◌∙◌}
use Rattle.base_scan.proofs.FindLaws.{seek_some, seek_none}
use Rattle.base_scan.proofs.find_few.Goals as goal

pub returns-in-Some : goal.returns-in-Some
returns-in-Some c = seek_some _ _ _ _ (sym c.first_of.ensures ∙ c.in-Some.is)

pub returns-in-None : goal.returns-in-None
returns-in-None c = seek_none _ _ _ (sym c.first_of.ensures ∙ c.in-None.is)
