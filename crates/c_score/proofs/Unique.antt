-- The public function's promise allows one result. Assumes nothing.
use mathlib.Core.Path.{sym, ◌∙◌}
use Rattle.base_lists.proofs.One.{OneResult}
use Rattle.c_score.proofs.gff3_score.Kinds as score_kinds
use Rattle.c_score.proofs.gff3_score.Reads as score

score_one : OneResult 1 score_kinds.ps score_kinds.r score.Post
score_one κs a x y s t p q = p ∙ sym q
