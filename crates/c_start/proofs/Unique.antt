-- The public function's promise allows one result. Assumes nothing.
use mathlib.Core.Path.{sym, ◌∙◌}
use Rattle.base_lists.proofs.One.{OneResult}
use Rattle.c_start.proofs.gff3_start.Kinds as gff3_start_kinds
use Rattle.c_start.proofs.gff3_start.Reads as gff3_start

gff3_start_one : OneResult 1 gff3_start_kinds.ps gff3_start_kinds.r gff3_start.Post
gff3_start_one κs a x y s t p q = p ∙ sym q
