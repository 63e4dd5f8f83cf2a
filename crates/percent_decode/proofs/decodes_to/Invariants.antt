-- `decodes_to`: what is left of the text is to be what is left of the plain one. Assumes nothing.
use Prim.Native.Nat.{◌-◌, ◌≤◌}
use mathlib.Core.Path.{◌≡◌}
use lib.ListN.{length, drop}
use Rattle.base_words.specs.Same.{same}
use Rattle.percent_coding.specs.Percent.{decoded}
use Rattle.percent_decode.proofs.decodes_to.Given as goal

abbrev pub invariant-loop-i : goal.invariant-loop-i
invariant-loop-i l =
    (l.i ≤ length l.s) × (l.j ≤ length l.plain) × (same (decoded l.s) l.plain ≡ same (decoded (drop l.i l.s)) (drop l.j l.plain))

abbrev pub decreases-loop-i : goal.decreases-loop-i
decreases-loop-i l =
    length l.s - l.i
