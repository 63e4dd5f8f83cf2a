-- `lay_attributes`: what is left to lay are the attributes that the walk meets from the cursor on. Assumes nothing.
use Prim.Native.Nat.{◌+◌, ◌-◌, ◌≤◌}
use mathlib.Core.Path.{◌≡◌}
use mathlib.Core.Bool.{false}
use lib.ListN.{length}
use Rattle.base_lists.specs.Bytes.{percent, comma}
use Rattle.base_buffer.proofs.LaidLaws.{Left}
use Rattle.read_attributes.specs.Attributes.{attributes, walk_from, walk}
use Rattle.read_judge.specs.Judge.{stuck, got}
use Rattle.read_judge.proofs.AttributesLaws.{rest}
use Rattle.read_judge.proofs.PlainLaws.{Ahead}
use Rattle.read_record.proofs.lay.lay_attributes.Given as goal

abbrev pub invariant-loop-field : goal.invariant-loop-field
invariant-loop-field l =
    (l.to ≤ length l.out)
    × (stuck (attributes (walk_from l.column l.from)) ≡ false)
    × Left (rest (walk l.column)) l.initial.out l.at (rest (walk_from l.column l.from)) l.out l.to
    × (l.count + length (got (attributes (walk_from l.column l.from))) ≡ length (got (attributes (walk l.column))))
    × (l.count ≤ l.from)
    × (l.from ≤ length l.column)
    × Ahead percent l.column l.from l.percent
    × Ahead comma l.column l.from l.comma

abbrev pub decreases-loop-field : goal.decreases-loop-field
decreases-loop-field l =
    length l.column - l.from
