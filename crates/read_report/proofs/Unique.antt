-- Each public function's promise allows one result. Assumes nothing.
use mathlib.Core.Path.{sym, ◌∙◌}
use Rattle.base_lists.proofs.One.{OneResult}
use Rattle.read_report.proofs.morning.report_of.Kinds as report_of_kinds
use Rattle.read_report.proofs.morning.report_of.Reads as report_of

report_of_one : OneResult 1 report_of_kinds.ps report_of_kinds.r report_of.Post
report_of_one κs a x y s t p q = p ∙ sym q
