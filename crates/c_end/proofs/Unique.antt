-- The public function's promise allows one result. Assumes nothing.
use mathlib.Core.Path.{sym, ◌∙◌}
use Rattle.base_lists.proofs.One.{OneResult}
use Rattle.c_end.proofs.gff3_end.Kinds as gff3_end_kinds
use Rattle.c_end.proofs.gff3_end.Reads as gff3_end

gff3_end_one : OneResult 1 gff3_end_kinds.ps gff3_end_kinds.r gff3_end.Post
gff3_end_one κs a x y s t p q = p ∙ sym q
