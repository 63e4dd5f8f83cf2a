-- `add_totals`: a directive and a comment here, a record and a refused line by their own. Assumes nothing.
use native.Mathlib.Nat.{add-zero}
use Rattle.base_lists.specs.Bit.{bit}
use Rattle.read_report.proofs.add.add_totals.Goals as goal

pub returns-in-Directive : goal.returns-in-Directive
unfolding bit
returns-in-Directive c = rw c.in-Directive.is (simp add-zero)

pub returns-in-Comment : goal.returns-in-Comment
unfolding bit
returns-in-Comment c = rw c.in-Comment.is (simp add-zero)
