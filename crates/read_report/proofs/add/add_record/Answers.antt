-- `add_record`: one more of the records, and one more of the reversed, or the length in the sum. Assumes nothing.
use native.Mathlib.Nat.{add-zero}
use borrow.Author.Tests.{lt-ltb, le-ltb}
use Rattle.base_lists.specs.Bit.{bit}
use Rattle.read_report.proofs.add.add_record.Goals as goal

pub returns-then-numbers : goal.returns-then-numbers
unfolding bit
returns-then-numbers c = rw (lt-ltb _ _ c.if-numbers.true) (simp add-zero)

pub returns : goal.returns
unfolding bit
returns c = rw (le-ltb _ _ c.if-numbers.false) (simp add-zero)
