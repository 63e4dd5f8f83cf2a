-- `add_refused`: one more under its own number, and what stays is what has nothing added. Assumes nothing.
use native.Mathlib.Nat.{add-zero}
use Rattle.base_lists.specs.Bit.{bit}
use Rattle.read_report.proofs.add.add_refused.Goals as goal

pub returns-in-TooLong : goal.returns-in-TooLong
unfolding bit
returns-in-TooLong c = rw c.in-TooLong.is (simp add-zero)

pub returns-in-Columns : goal.returns-in-Columns
unfolding bit
returns-in-Columns c = rw c.in-Columns.is (simp add-zero)

pub returns-in-Position : goal.returns-in-Position
unfolding bit
returns-in-Position c = rw c.in-Position.is (simp add-zero)

pub returns-in-Score : goal.returns-in-Score
unfolding bit
returns-in-Score c = rw c.in-Score.is (simp add-zero)

pub returns-in-Strand : goal.returns-in-Strand
unfolding bit
returns-in-Strand c = rw c.in-Strand.is (simp add-zero)

pub returns-in-Phase : goal.returns-in-Phase
unfolding bit
returns-in-Phase c = rw c.in-Phase.is (simp add-zero)

pub returns-in-Attribute : goal.returns-in-Attribute
unfolding bit
returns-in-Attribute c = rw c.in-Attribute.is (simp add-zero)
