-- What holds of the totals while lines are counted. Assumes nothing: these are definitions.
use Rattle.std.specs.Prelude.{◌+◌, ◌≤◌, ◌<◌}
use Rattle.read_numbers.specs.Number.{most64}
use Rattle.read_verdict.specs.declared.Verdict.{Verdict}
use Rattle.read_verdict.specs.Verdict.{Sound}
use Rattle.read_report.specs.declared.totals.Totals.{Totals}
use Rattle.read_report.specs.Report.{length_of}
use Rattle.read_report.specs.Sums.{all_lines}

-- no total passes 64 bits with this line more
pub record Room (t : Totals) (v : Verdict) : Type 0 where
  pub lines : all_lines t < most64
  pub reversed : t.reversed ≤ t.records
  pub sum : t.sum + length_of v ≤ most64
  pub sound : Sound v
