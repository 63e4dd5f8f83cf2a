-- `report_of`: each turn counts the line that a step hands out. Assumes nothing.
use Prim.Native.Nat.{◌-◌}
use lib.ListN.{length}
use Rattle.read_report.proofs.SumLaws.{Halfway}
use Rattle.read_report.proofs.morning.report_of.Given as goal

abbrev pub invariant-loop-place : goal.invariant-loop-place
invariant-loop-place l =
    Halfway l.text l.cursor (record { lengths = l.lengths; totals = l.totals })

abbrev pub decreases-loop-place : goal.decreases-loop-place
decreases-loop-place l =
    length l.text - l.cursor.at
