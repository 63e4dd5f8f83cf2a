-- `replay` is safe and ends: each turn hands out a line, and the cursor moves on. Assumes nothing.
use Prim.Native.Nat.{◌-◌}
use lib.ListN.{length}
use Rattle.program_replay.proofs.replay.Given as goal

abbrev pub invariant-loop-place : goal.invariant-loop-place
invariant-loop-place l =
    Unit {0}

abbrev pub decreases-loop-place : goal.decreases-loop-place
decreases-loop-place l =
    length l.cases - l.cursor.at
