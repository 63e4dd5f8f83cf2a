-- `marks_few`: m is the mask of the bytes before i. Assumes nothing.
use Rattle.std.proofs.Common.{◌≡◌, take}
use Rattle.base_scan.specs.Mask.{mask}
use Rattle.base_scan.proofs.mask.marks_few.Given as goal

abbrev pub invariant-loop-i : goal.invariant-loop-i
invariant-loop-i l = l.m ≡ mask l.b (take l.i l.s)
