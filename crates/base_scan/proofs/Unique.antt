-- Each public function's promise allows one result and one content of a lent buffer. Assumes nothing.
use mathlib.Core.Path.{sym, ◌∙◌}
use Rattle.base_lists.proofs.One.{OneResult, OneShown}
use Rattle.base_scan.proofs.find.Kinds as find_kinds
use Rattle.base_scan.proofs.find.Reads as find
use Rattle.base_scan.proofs.find_two.Kinds as find_two_kinds
use Rattle.base_scan.proofs.find_two.Reads as find_two
use Rattle.base_scan.proofs.find_on.Kinds as find_on_kinds
use Rattle.base_scan.proofs.find_on.Reads as find_on
use Rattle.base_scan.proofs.find_last.Kinds as find_last_kinds
use Rattle.base_scan.proofs.find_last.Reads as find_last
use Rattle.base_scan.proofs.mask.marks.Kinds as marks_kinds
use Rattle.base_scan.proofs.mask.marks.Reads as marks
use Rattle.base_scan.proofs.place.part.Kinds as part_kinds
use Rattle.base_scan.proofs.place.part.Reads as part
use Rattle.base_scan.proofs.place.text.Kinds as text_kinds
use Rattle.base_scan.proofs.place.text.Reads as text

find_one : OneResult 1 find_kinds.ps find_kinds.r find.Post
find_one κs a x y s t p q = p.0 ∙ sym q.0

find_two_one : OneResult 1 find_two_kinds.ps find_two_kinds.r find_two.Post
find_two_one κs a x y s t p q = p.0 ∙ sym q.0

find_on_one : OneResult 1 find_on_kinds.ps find_on_kinds.r find_on.Post
find_on_one κs a x y s t p q = p ∙ sym q

find_last_one : OneResult 1 find_last_kinds.ps find_last_kinds.r find_last.Post
find_last_one κs a x y s t p q = p ∙ sym q

marks_one : OneResult 1 marks_kinds.ps marks_kinds.r marks.Post
marks_one κs a x y s t p q = p ∙ sym q

part_one : OneShown 1 part_kinds.ps part_kinds.r part.Post (λ κs x. x.now)
part_one κs a x y s t p q = p ∙ sym q

text_one : OneShown 1 text_kinds.ps text_kinds.r text.Post (λ κs x. x.now)
text_one κs a x y s t p q = p ∙ sym q
