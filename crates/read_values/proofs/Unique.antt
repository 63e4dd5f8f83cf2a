-- Each public function's promise allows one result and one content of a lent buffer. Assumes nothing.
use mathlib.Core.Path.{sym, ◌∙◌}
use Rattle.base_lists.proofs.One.{OneResult}
use Rattle.read_values.proofs.ValueCursor.new.Kinds as cursor_new_kinds
use Rattle.read_values.proofs.ValueCursor.new.Reads as cursor_new
use Rattle.read_values.proofs.next_value.Kinds as next_value_kinds
use Rattle.read_values.proofs.next_value.Reads as next_value

cursor_new_one : OneResult 0 cursor_new_kinds.ps cursor_new_kinds.r cursor_new.Post
cursor_new_one κs a x y s t p q = p ∙ sym q

next_value_one : OneResult 1 next_value_kinds.ps next_value_kinds.r next_value.Post
next_value_one κs a x y s t p q = p ∙ sym q
