-- `marks_full`: the digits of the vector's comparison. Assumes nothing.
use Rattle.std.proofs.Common.{arith, take}
use lib.Seq.{length-take-le}
use Rattle.base_scan.proofs.MaskLaws.{mask_lanes}
use Rattle.base_scan.proofs.mask.marks_full.Goals as goal

pub returns : goal.returns
returns c = let s = c.args.s.now in mask_lanes c.args.b 64 (take 64 s) (length-take-le 64 s c.requires) (omega arith)
