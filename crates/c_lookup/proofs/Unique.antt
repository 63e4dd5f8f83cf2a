-- The public function's promise allows one result. Assumes nothing.
use mathlib.Core.Path.{sym, ◌∙◌}
use Rattle.base_lists.proofs.One.{OneResult}
use Rattle.c_lookup.proofs.gff3_find_tag.Kinds as find_tag_kinds
use Rattle.c_lookup.proofs.gff3_find_tag.Reads as find_tag

find_tag_one : OneResult 2 find_tag_kinds.ps find_tag_kinds.r find_tag.Post
find_tag_one κs a x y s t p q = p ∙ sym q
