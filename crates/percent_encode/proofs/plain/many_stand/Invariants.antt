-- `many_stand`: nothing is escaped before i; the last window says the rest. Assumes nothing.
use mathlib.Core.Path.{◌≡◌}
use Prim.Native.Nat.{◌-◌, ◌≤◌}
use lib.ListN.{length, take}
use Rattle.percent_coding.specs.Percent.{count_escaped}
use Rattle.percent_sets.specs.Sets.{escapes}
use Rattle.percent_sets.specs.declared.Set.TheVariants.{Attribute}
use Rattle.percent_encode.proofs.plain.many_stand.Given as goal

abbrev pub invariant-loop-i : goal.invariant-loop-i
invariant-loop-i l =
    (l.i ≤ length l.s) × (count_escaped (escapes Attribute) (take l.i l.s) ≡ 0)

abbrev pub decreases-loop-i : goal.decreases-loop-i
decreases-loop-i l =
    length l.s - l.i
