-- `first_fault` answers the first reason. Assumes nothing.
use Rattle.base_buffer.specs.Answer.{unless}
use Rattle.write_measure.proofs.reasons.first_fault.Goals as goal

pub returns-then-faults : goal.returns-then-faults
unfolding unless
returns-then-faults c = rw c.if-faults.true

pub returns-then-faults-2 : goal.returns-then-faults-2
unfolding unless
returns-then-faults-2 c = rw (c.if-faults.false, c.if-faults-2.true)

pub returns-then-faults-3 : goal.returns-then-faults-3
unfolding unless
returns-then-faults-3 c = rw (c.if-faults.false, c.if-faults-2.false, c.if-faults-3.true)

pub returns-then-faults-4 : goal.returns-then-faults-4
unfolding unless
returns-then-faults-4 c = rw (c.if-faults.false, c.if-faults-2.false, c.if-faults-3.false, c.if-faults-4.true)

pub returns-then-faults-5 : goal.returns-then-faults-5
unfolding unless
returns-then-faults-5 c = rw (c.if-faults.false, c.if-faults-2.false, c.if-faults-3.false, c.if-faults-4.false, c.if-faults-5.true)

pub returns : goal.returns
unfolding unless
returns c = rw (c.if-faults.false, c.if-faults-2.false, c.if-faults-3.false, c.if-faults-4.false, c.if-faults-5.false)
