-- Each public function's promise allows one result. Assumes nothing.
use mathlib.Core.Path.{sym, ◌∙◌}
use Rattle.base_lists.proofs.One.{OneResult}
use Rattle.write_texts.proofs.is_long.Kinds as is_long_kinds
use Rattle.write_texts.proofs.is_long.Reads as is_long
use Rattle.write_texts.proofs.breaks.Kinds as breaks_kinds
use Rattle.write_texts.proofs.breaks.Reads as breaks
use Rattle.write_texts.proofs.is_spaced.Kinds as is_spaced_kinds
use Rattle.write_texts.proofs.is_spaced.Reads as is_spaced
use Rattle.write_texts.proofs.is_unfit.Kinds as is_unfit_kinds
use Rattle.write_texts.proofs.is_unfit.Reads as is_unfit

is_long_one : OneResult 1 is_long_kinds.ps is_long_kinds.r is_long.Post
is_long_one κs a x y s t p q = p ∙ sym q

breaks_one : OneResult 1 breaks_kinds.ps breaks_kinds.r breaks.Post
breaks_one κs a x y s t p q = p ∙ sym q

is_spaced_one : OneResult 1 is_spaced_kinds.ps is_spaced_kinds.r is_spaced.Post
is_spaced_one κs a x y s t p q = p ∙ sym q

is_unfit_one : OneResult 1 is_unfit_kinds.ps is_unfit_kinds.r is_unfit.Post
is_unfit_one κs a x y s t p q = p ∙ sym q
