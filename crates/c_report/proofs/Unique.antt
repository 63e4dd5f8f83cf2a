-- Each public function's promise allows one result. Assumes nothing.
use mathlib.Core.Path.{sym, ◌∙◌}
use Rattle.base_lists.proofs.One.{OneResult}
use Rattle.c_report.proofs.gff3_report.Kinds as gff3_report_kinds
use Rattle.c_report.proofs.gff3_report.Reads as gff3_report

gff3_report_one : OneResult 1 gff3_report_kinds.ps gff3_report_kinds.r gff3_report.Post
gff3_report_one κs a x y s t p q = p ∙ sym q
