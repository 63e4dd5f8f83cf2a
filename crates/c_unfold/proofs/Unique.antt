-- Each public function's promise allows one result and one content of a lent buffer. Assumes nothing.
use mathlib.Core.Path.{sym, ◌∙◌}
use Rattle.base_lists.proofs.One.{One, OneResult}
use Rattle.read_record.proofs.UnfoldLaws.{unfolds_one}
use Rattle.c_answers.proofs.AnswersLaws.{as_c_one}
use Rattle.c_unfold.proofs.gff3_judge.Kinds as judge_kinds
use Rattle.c_unfold.proofs.gff3_judge.Reads as judge
use Rattle.c_unfold.proofs.gff3_unfold.Kinds as unfold_kinds
use Rattle.c_unfold.proofs.gff3_unfold.Reads as laying

judge_one : OneResult 1 judge_kinds.ps judge_kinds.r judge.Post
judge_one κs a x y s t p q = p ∙ sym q

unfold_one : One 2 unfold_kinds.ps unfold_kinds.r laying.Post (λ κs x. x) (λ κs s. s.1.0.now)
unfold_one κs a x y s t p q = as_c_one (λ u v. unfolds_one) p q
