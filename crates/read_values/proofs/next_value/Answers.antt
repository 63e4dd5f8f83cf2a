-- `next_value` answers `next_value`. Assumes nothing.
use Rattle.read_values.specs.Step.{next_value}
use Rattle.read_values.proofs.next_value.Goals as goal

pub returns-then-cursor : goal.returns-then-cursor
unfolding next_value
returns-then-cursor c = rw c.if-cursor.true

pub returns : goal.returns
unfolding next_value
returns c = rw (c.if-cursor.false, ← c.least-at.ensures, ← c.find-end.ensures.first, ← c.least.ensures)
