-- Each public function's promise allows one result and one content of a lent buffer. Assumes nothing.
use mathlib.Core.Path.{sym, ◌∙◌}
use Rattle.base_lists.proofs.One.{OneResult}
use Rattle.base_words.proofs.same.is_dot.Kinds as is_dot_kinds
use Rattle.base_words.proofs.same.is_dot.Reads as is_dot
use Rattle.base_words.proofs.same.is_same.Kinds as is_same_kinds
use Rattle.base_words.proofs.same.is_same.Reads as is_same
use Rattle.base_words.proofs.word.is_space.Kinds as is_space_kinds
use Rattle.base_words.proofs.word.is_space.Reads as is_space
use Rattle.base_words.proofs.word.find_space.Kinds as find_space_kinds
use Rattle.base_words.proofs.word.find_space.Reads as find_space
use Rattle.base_words.proofs.word.find_ink.Kinds as find_ink_kinds
use Rattle.base_words.proofs.word.find_ink.Reads as find_ink
use Rattle.base_words.proofs.word.next_word.Kinds as next_word_kinds
use Rattle.base_words.proofs.word.next_word.Reads as next_word

is_dot_one : OneResult 1 is_dot_kinds.ps is_dot_kinds.r is_dot.Post
is_dot_one κs a x y s t p q = p ∙ sym q

is_same_one : OneResult 2 is_same_kinds.ps is_same_kinds.r is_same.Post
is_same_one κs a x y s t p q = p ∙ sym q

is_space_one : OneResult 0 is_space_kinds.ps is_space_kinds.r is_space.Post
is_space_one κs a x y s t p q = p ∙ sym q

find_space_one : OneResult 1 find_space_kinds.ps find_space_kinds.r find_space.Post
find_space_one κs a x y s t p q = p.0 ∙ sym q.0

find_ink_one : OneResult 1 find_ink_kinds.ps find_ink_kinds.r find_ink.Post
find_ink_one κs a x y s t p q = p.0 ∙ sym q.0

next_word_one : OneResult 1 next_word_kinds.ps next_word_kinds.r next_word.Post
next_word_one κs a x y s t p q = p ∙ sym q
