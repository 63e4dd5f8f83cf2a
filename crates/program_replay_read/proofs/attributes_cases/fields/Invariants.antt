-- `fields` is safe and ends: the cursor moves on. Assumes nothing.
use Prim.Native.Nat.{◌+◌, ◌-◌}
use lib.ListN.{length}
use Rattle.program_replay_read.proofs.attributes_cases.fields.Given as goal

abbrev pub invariant-loop-field : goal.invariant-loop-field
invariant-loop-field l =
    Unit {0}

abbrev pub decreases-loop-field : goal.decreases-loop-field
decreases-loop-field l =
    length l.column + 1 - l.from
