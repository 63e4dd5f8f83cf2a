-- Each public function's promise allows one result. Assumes nothing.
use mathlib.Core.Path.{sym, ◌∙◌}
use Rattle.base_lists.proofs.One.{OneResult}
use Rattle.base_numbers.proofs.least.Kinds as least_kinds
use Rattle.base_numbers.proofs.least.Reads as least
use Rattle.base_numbers.proofs.either.Kinds as either_kinds
use Rattle.base_numbers.proofs.either.Reads as either

least_one : OneResult 0 least_kinds.ps least_kinds.r least.Post
least_one κs a x y s t p q = p ∙ sym q

either_one : OneResult 0 either_kinds.ps either_kinds.r either.Post
either_one κs a x y s t p q = p ∙ sym q
