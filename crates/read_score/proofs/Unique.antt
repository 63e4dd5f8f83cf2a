-- Each public function's promise allows one result. Assumes nothing.
use mathlib.Core.Path.{sym, ◌∙◌}
use Rattle.base_lists.proofs.One.{OneResult}
use Rattle.read_score.proofs.is_score.Kinds as is_score_kinds
use Rattle.read_score.proofs.is_score.Reads as is_score

is_score_one : OneResult 1 is_score_kinds.ps is_score_kinds.r is_score.Post
is_score_one κs a x y s t p q = p ∙ sym q
