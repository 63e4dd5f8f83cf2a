-- The public function's promise allows one result. Assumes nothing.
use mathlib.Core.Path.{sym, ◌∙◌}
use Rattle.base_lists.proofs.One.{OneResult}
use Rattle.c_record.proofs.gff3_record.Kinds as record_kinds
use Rattle.c_record.proofs.gff3_record.Reads as read

record_one : OneResult 1 record_kinds.ps record_kinds.r read.Post
record_one κs a x y s t p q = p ∙ sym q
