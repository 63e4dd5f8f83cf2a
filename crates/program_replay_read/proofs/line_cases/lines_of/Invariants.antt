-- `lines_of` is safe and ends: the cursor moves on. Assumes nothing.
use Prim.Native.Nat.{◌-◌}
use lib.ListN.{length}
use Rattle.program_replay_read.proofs.line_cases.lines_of.Given as goal

abbrev pub invariant-loop-place : goal.invariant-loop-place
invariant-loop-place l =
    Unit {0}

abbrev pub decreases-loop-place : goal.decreases-loop-place
decreases-loop-place l =
    length l.text - l.cursor.at
