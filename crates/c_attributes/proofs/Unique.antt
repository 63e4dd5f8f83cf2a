-- Each public function's promise allows one result. Assumes nothing.
use mathlib.Core.Path.{sym, ◌∙◌}
use Rattle.base_lists.proofs.One.{OneResult}
use Rattle.c_attributes.proofs.gff3_next_field.Kinds as next_field_kinds
use Rattle.c_attributes.proofs.gff3_next_field.Reads as next_field
use Rattle.c_attributes.proofs.gff3_next_value.Kinds as next_value_kinds
use Rattle.c_attributes.proofs.gff3_next_value.Reads as next_value
use Rattle.c_attributes.proofs.gff3_no_attributes.Kinds as no_attributes_kinds
use Rattle.c_attributes.proofs.gff3_no_attributes.Reads as no_attributes

next_field_one : OneResult 1 next_field_kinds.ps next_field_kinds.r next_field.Post
next_field_one κs a x y s t p q = p ∙ sym q

next_value_one : OneResult 1 next_value_kinds.ps next_value_kinds.r next_value.Post
next_value_one κs a x y s t p q = p ∙ sym q

no_attributes_one : OneResult 1 no_attributes_kinds.ps no_attributes_kinds.r no_attributes.Post
no_attributes_one κs a x y s t p q = p ∙ sym q
