-- `rewrite` is safe and ends: each turn hands out a line, and the cursor moves on. Assumes nothing.
use Rattle.std.proofs.Common.{◌≡◌, ◌-◌, length}
use Rattle.program_rewrite.proofs.rewrite.Given as goal

abbrev pub invariant-loop-place : goal.invariant-loop-place
invariant-loop-place g l = (length l.sheet ≡ length l.initial.sheet) × (length l.out ≡ length l.initial.out)

abbrev pub decreases-loop-place : goal.decreases-loop-place
decreases-loop-place g l = length l.text - l.cursor.at
