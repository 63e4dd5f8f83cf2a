-- Each public function's promise allows one result. Assumes nothing.
use mathlib.Core.Path.{sym, ◌∙◌}
use Rattle.base_lists.proofs.One.{OneResult}
use Rattle.base_refusals.proofs.Refusal.number.Kinds as number_kinds
use Rattle.base_refusals.proofs.Refusal.number.Reads as number

number_one : OneResult 0 number_kinds.ps number_kinds.r number.Post
number_one κs a x y s t p q = p ∙ sym q
