-- `lay_values`: what is left to lay are the values from the cursor on. Assumes nothing.
use Prim.Native.Nat.{◌≤◌}
use mathlib.Core.List.{flat_map}
use lib.ListN.{length}
use Rattle.base_buffer.proofs.LaidLaws.{Left}
use Rattle.read_attributes.specs.Attributes.{values}
use Rattle.sheet_form.specs.Sheet.{section_of}
use Rattle.read_judge.proofs.ValuesLaws.{coming}
use Rattle.read_record.proofs.lay.lay_values.Given as goal

abbrev pub invariant-loop-place : goal.invariant-loop-place
invariant-loop-place l =
    (l.to ≤ length l.out) × Left (flat_map section_of (values l.value)) l.initial.out l.at (flat_map section_of (coming l.value l.cursor)) l.out l.to

abbrev pub decreases-loop-place : goal.decreases-loop-place
decreases-loop-place l =
    length (coming l.value l.cursor)
