-- `value_count`: what is counted, and the values from the cursor on, are all. Assumes nothing.
use Prim.Native.Nat.{◌+◌}
use mathlib.Core.Path.{◌≡◌}
use lib.ListN.{length}
use Rattle.read_attributes.specs.Attributes.{values}
use Rattle.read_judge.proofs.ValuesLaws.{coming}
use Rattle.read_record.proofs.lay.value_count.Given as goal

abbrev pub invariant-loop-next : goal.invariant-loop-next
invariant-loop-next l =
    length (values l.value) ≡ l.n + length (coming l.value l.cursor)

abbrev pub decreases-loop-next : goal.decreases-loop-next
decreases-loop-next l =
    length (coming l.value l.cursor)
