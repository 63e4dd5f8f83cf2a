-- `find_tag`: the lookup over the whole column is the one from the cursor on. Assumes nothing.
use Prim.Native.Nat.{◌-◌, ◌≤◌}
use mathlib.Core.Path.{◌≡◌}
use lib.ListN.{length}
use Rattle.read_attributes.specs.Attributes.{walk_from}
use Rattle.read_lookup.specs.Lookup.{find_in, find_tag}
use Rattle.read_lookup.proofs.find_tag.Given as goal

abbrev pub invariant-loop-field : goal.invariant-loop-field
invariant-loop-field l =
    (l.at ≤ length l.column) × (find_tag l.column l.tag ≡ find_in l.tag l.at (walk_from l.column l.at))

abbrev pub decreases-loop-field : goal.decreases-loop-field
decreases-loop-field l =
    length l.column - l.at
