-- `marks_many`: m is the mask of the bytes before i; the last window is read with its lowest digits shifted out. Assumes nothing.
use mathlib.Core.Path.{◌≡◌}
use Prim.Native.Nat.{◌-◌, ◌≤◌}
use lib.ListN.{length, take}
use Rattle.base_scan.specs.Mask.{mask}
use Rattle.base_scan.proofs.mask.marks_many.Given as goal

abbrev pub invariant-loop-i : goal.invariant-loop-i
invariant-loop-i l =
    (l.i ≤ length l.s) × (l.m ≡ mask l.b (take l.i l.s))

abbrev pub decreases-loop-i : goal.decreases-loop-i
decreases-loop-i l =
    length l.s - l.i
