-- `find_last`: no b stands from `end` on, so the last one before it is the last. Assumes nothing.
use Rattle.base_scan.proofs.LastLaws.{last_some, last_missed}
use Rattle.base_scan.proofs.find_last.Goals as goal

pub returns-in-Some : goal.returns-in-Some
returns-in-Some c =
    let none = c.past_last-end.ensures in
    let last = c.in-Some.ensures.some in last_some _ _ _ none.1 none.0 _ last.0 last.1 last.2

pub returns-in-None : goal.returns-in-None
returns-in-None c = let none = c.past_last-end.ensures in last_missed _ _ _ none.1 none.0 c.in-None.ensures.none
