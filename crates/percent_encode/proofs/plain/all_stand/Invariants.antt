-- `all_stand`: what is known of the first j bytes of the window. Assumes nothing.
use mathlib.Core.Path.{◌≡◌}
use Prim.Native.Nat.{◌-◌, ◌≤◌}
use lib.ListN.{take, drop}
use Rattle.percent_sets.specs.Sets.{escapes}
use Rattle.percent_sets.specs.declared.Set.TheVariants.{Attribute}
use Rattle.percent_encode.proofs.PlainLaws.{plain}
use Rattle.percent_encode.proofs.plain.all_stand.Given as goal

abbrev pub invariant-loop-j : goal.invariant-loop-j
invariant-loop-j l =
    (l.j ≤ l.n) × (l.all ≡ plain (escapes Attribute) (take l.j (drop l.at l.s)))

abbrev pub decreases-loop-j : goal.decreases-loop-j
decreases-loop-j l =
    l.n - l.j
