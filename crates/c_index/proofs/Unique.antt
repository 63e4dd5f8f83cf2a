-- The public function's promise allows one result. Assumes nothing.
use mathlib.Core.Path.{sym, ◌∙◌}
use Rattle.base_lists.proofs.One.{OneResult}
use Rattle.c_index.proofs.gff3_index.Kinds as index_kinds
use Rattle.c_index.proofs.gff3_index.Reads as index

index_one : OneResult 1 index_kinds.ps index_kinds.r index.Post
index_one κs a x y s t p q = p ∙ sym q
