-- `gff3_report` answers `c_morning` of the report. Assumes nothing.
use mathlib.Core.Path.{ap, ◌∙◌}
use Rattle.c_report.specs.Report.{c_morning}
use Rattle.c_report.proofs.gff3_report.Goals as goal

pub returns : goal.returns
returns c = c.report_in.ensures ∙ ap c_morning c.report_of.ensures
