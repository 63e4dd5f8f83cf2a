-- Each public function's promise allows one result and one content of a lent buffer. Assumes nothing.
use mathlib.Core.Path.{sym, ◌∙◌}
use Rattle.base_lists.proofs.One.{OneResult}
use Rattle.read_attributes.proofs.field.is_empty.Kinds as is_empty_kinds
use Rattle.read_attributes.proofs.field.is_empty.Reads as is_empty
use Rattle.read_attributes.proofs.field.next_field.Kinds as next_field_kinds
use Rattle.read_attributes.proofs.field.next_field.Reads as next_field

is_empty_one : OneResult 1 is_empty_kinds.ps is_empty_kinds.r is_empty.Post
is_empty_one κs a x y s t p q = p ∙ sym q

next_field_one : OneResult 1 next_field_kinds.ps next_field_kinds.r next_field.Post
next_field_one κs a x y s t p q = p ∙ sym q
