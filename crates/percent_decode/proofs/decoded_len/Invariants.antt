-- `decoded_len`: so many bytes are decoded, and what stands from i on is left. Assumes nothing.
use Prim.Native.Nat.{◌+◌, ◌-◌, ◌≤◌}
use mathlib.Core.Path.{◌≡◌}
use lib.ListN.{length, drop}
use Rattle.percent_coding.specs.Percent.{decoded}
use Rattle.percent_decode.proofs.decoded_len.Given as goal

abbrev pub invariant-loop-i : goal.invariant-loop-i
invariant-loop-i l =
    (l.n ≤ l.i) × (l.i ≤ length l.s) × (length (decoded l.s) ≡ l.n + length (decoded (drop l.i l.s)))

abbrev pub decreases-loop-i : goal.decreases-loop-i
decreases-loop-i l =
    length l.s - l.i
