-- The public function's promise allows one result. Assumes nothing.
use mathlib.Core.Path.{sym, ◌∙◌}
use Rattle.base_lists.proofs.One.{OneResult}
use Rattle.c_strand.proofs.gff3_strand.Kinds as strand_kinds
use Rattle.c_strand.proofs.gff3_strand.Reads as strand

strand_one : OneResult 1 strand_kinds.ps strand_kinds.r strand.Post
strand_one κs a x y s t p q = p ∙ sym q
