-- `part` answers `part`, also past the end. Assumes nothing.
use native.Mathlib.Omega.{arith}
use Rattle.base_scan.proofs.PartLaws.{part_none, part_past, part_rest}
use Rattle.base_scan.proofs.place.part.Goals as goal

pub returns-then-e-s : goal.returns-then-e-s
returns-then-e-s c = let a = c.args in part_none a.a a.e a.s.now (omega arith)

pub returns-then-a-s : goal.returns-then-a-s
returns-then-a-s c = let a = c.args in part_rest a.a a.e a.s.now (omega arith)

pub returns : goal.returns
returns c = let a = c.args in part_past a.a a.e a.s.now (omega arith)
