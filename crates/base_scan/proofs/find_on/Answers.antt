-- `find_on`: sought anew where it was passed. Assumes nothing.
use borrow.Author.Tests.{lt-ltb, le-ltb}
use Rattle.base_scan.proofs.find_on.Goals as goal

pub returns-then-known-at : goal.returns-then-known-at
returns-then-known-at c = rw (lt-ltb _ _ c.if-known-at.true) c.find.ensures.first

pub returns : goal.returns
returns c = rw (le-ltb _ _ c.if-known-at.false)
