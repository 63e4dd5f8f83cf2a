-- `count_many`: what is counted, and what is to count from the next window on, are the whole. Assumes nothing.
use mathlib.Core.Path.{◌≡◌}
use Prim.Native.Nat.{◌+◌, ◌*◌, ◌≤◌}
use lib.ListN.{drop}
use Rattle.percent_coding.specs.Percent.{count_escaped}
use Rattle.percent_sets.specs.Sets.{escapes}
use Rattle.percent_sets.specs.declared.Set.TheVariants.{Attribute}
use Rattle.percent_encode.proofs.plain.count_many.Given as goal

abbrev pub invariant-loop-window : goal.invariant-loop-window
invariant-loop-window l =
    (l.n ≤ l.window-index * 16)
    × (count_escaped (escapes Attribute) l.s ≡ l.n + count_escaped (escapes Attribute) (drop (l.window-index * 16) l.s))
