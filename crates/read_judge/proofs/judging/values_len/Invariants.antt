-- `values_len`: what is counted, and the values from the cursor on, are the whole. Assumes nothing.
use Prim.Native.Nat.{◌+◌}
use mathlib.Core.Path.{◌≡◌}
use mathlib.Core.List.{flat_map}
use lib.ListN.{length}
use Rattle.read_attributes.specs.Attributes.{values}
use Rattle.sheet_form.specs.Sheet.{section_of, counted_of}
use Rattle.read_judge.proofs.ValuesLaws.{coming}
use Rattle.read_judge.proofs.judging.values_len.Given as goal

abbrev pub invariant-loop-place : goal.invariant-loop-place
invariant-loop-place l =
    length (counted_of section_of (values l.value)) ≡ l.n + length (flat_map section_of (coming l.value l.cursor))

abbrev pub decreases-loop-place : goal.decreases-loop-place
decreases-loop-place l =
    length (coming l.value l.cursor)
