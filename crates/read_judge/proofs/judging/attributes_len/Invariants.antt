-- `attributes_len`: what is counted, and the attributes from the cursor on, are the whole. The sum is at most twelve bytes for each byte that
-- the walk has passed. Assumes nothing.
use Prim.Native.Nat.{◌+◌, ◌-◌, ◌*◌, ◌≤◌}
use mathlib.Core.Path.{◌≡◌}
use mathlib.Core.Bool.{false}
use lib.ListN.{length}
use Rattle.base_lists.specs.Bytes.{percent, comma}
use Rattle.read_attributes.specs.Attributes.{attributes, walk_from, walk}
use Rattle.read_judge.specs.Judge.{stuck}
use Rattle.read_judge.proofs.AttributesLaws.{rest}
use Rattle.read_judge.proofs.PlainLaws.{Ahead}
use Rattle.read_judge.proofs.judging.attributes_len.Given as goal

abbrev pub invariant-loop-field : goal.invariant-loop-field
invariant-loop-field l =
    (l.at ≤ length l.column)
    × (l.n ≤ 12 * l.at)
    × (stuck (attributes (walk_from l.column l.at)) ≡ false)
    × (l.n + length (rest (walk_from l.column l.at)) ≡ length (rest (walk l.column)))
    × Ahead percent l.column l.at l.percent
    × Ahead comma l.column l.at l.comma

abbrev pub decreases-loop-field : goal.decreases-loop-field
decreases-loop-field l =
    length l.column - l.at
