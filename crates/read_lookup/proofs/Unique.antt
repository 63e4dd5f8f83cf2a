-- Each public function's promise allows one result and one content of a lent buffer. Assumes nothing.
use mathlib.Core.Path.{sym, ◌∙◌}
use Rattle.base_lists.proofs.One.{OneResult, OneShown}
use Rattle.read_lookup.proofs.find_tag.Kinds as find_tag_kinds
use Rattle.read_lookup.proofs.find_tag.Reads as find_tag
use Rattle.read_lookup.proofs.value_or.Kinds as value_or_kinds
use Rattle.read_lookup.proofs.value_or.Reads as value_or

find_tag_one : OneResult 2 find_tag_kinds.ps find_tag_kinds.r find_tag.Post
find_tag_one κs a x y s t p q = p ∙ sym q

value_or_one : OneShown 1 value_or_kinds.ps value_or_kinds.r value_or.Post (λ κs x. x.now)
value_or_one κs a x y s t p q = p ∙ sym q
