-- `power_of`: the power that the length has reached, and not passed. Assumes nothing.
use native.Mathlib.Omega.{arith}
use mathlib.Core.Path.{sym}
use Rattle.read_report.proofs.AddLaws.{power_is}
use Rattle.read_report.proofs.add.power_of.Goals as goal

pub returns : goal.returns
returns c = let p = c.ilog2.ensures in (sym (power_is _ _ p.bound p.power_le (omega arith)), p.bound)
