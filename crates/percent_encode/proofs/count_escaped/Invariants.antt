-- `count_escaped`: what is counted, and what is to count from the next byte on, are the whole. Assumes nothing.
use mathlib.Core.Path.{◌≡◌}
use Prim.Native.Nat.{◌+◌, ◌≤◌}
use lib.ListN.{length, drop}
use Rattle.percent_coding.specs.Percent.{count_escaped}
use Rattle.percent_sets.specs.Sets.{escapes}
use Rattle.percent_encode.proofs.count_escaped.Given as goal

abbrev pub invariant-loop-b : goal.invariant-loop-b
invariant-loop-b l =
    (l.b-index ≤ length l.s) × (l.n ≤ l.b-index) × (count_escaped (escapes l.set) l.s ≡ l.n + count_escaped (escapes l.set) (drop l.b-index l.s))
