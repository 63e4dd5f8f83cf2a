-- Each public function's promise allows one result. Assumes nothing.
use mathlib.Core.Path.{sym, ◌∙◌}
use Rattle.base_lists.proofs.One.{OneResult}
use Rattle.read_verdict.proofs.verdict_of.Kinds as verdict_of_kinds
use Rattle.read_verdict.proofs.verdict_of.Reads as verdict_of

verdict_of_one : OneResult 1 verdict_of_kinds.ps verdict_of_kinds.r verdict_of.Post
verdict_of_one κs a x y s t p q = p ∙ sym q
