-- The public function's promise allows one result and one content of a lent buffer. Assumes nothing.
use Rattle.base_lists.proofs.One.{One}
use Rattle.c_answers.proofs.AnswersLaws.{c_wrote_one}
use Rattle.c_text.proofs.gff3_text.Kinds as text_kinds
use Rattle.c_text.proofs.gff3_text.Reads as text

text_one : One 2 text_kinds.ps text_kinds.r text.Post (λ κs x. x) (λ κs s. s.1.1.1.0.now)
text_one κs a x y s t p q = c_wrote_one p q
