-- Each public function's promise allows one result and one content of a lent buffer. Assumes nothing.
use mathlib.Core.Path.{sym, ◌∙◌}
use Rattle.base_lists.proofs.One.{OneResult}
use Rattle.sheet_form.proofs.read.count_at.Kinds as count_at_kinds
use Rattle.sheet_form.proofs.read.count_at.Reads as count_at
use Rattle.sheet_form.proofs.read.section_at.Kinds as section_at_kinds
use Rattle.sheet_form.proofs.read.section_at.Reads as section_at

count_at_one : OneResult 1 count_at_kinds.ps count_at_kinds.r count_at.Post
count_at_one κs a x y s t p q = p ∙ sym q

section_at_one : OneResult 1 section_at_kinds.ps section_at_kinds.r section_at.Post
section_at_one κs a x y s t p q = p ∙ sym q
