-- Each public function's promise allows one result and one content of a lent buffer. Assumes nothing.
use mathlib.Core.Path.{sym, ◌∙◌}
use Rattle.base_lists.proofs.One.{OneResult, OneShown}
use Rattle.read_judge.proofs.admitting.admit.Kinds as admit_kinds
use Rattle.read_judge.proofs.admitting.admit.Reads as admit
use Rattle.read_judge.proofs.judging.survey.Kinds as survey_kinds
use Rattle.read_judge.proofs.judging.survey.Reads as survey
use Rattle.read_judge.proofs.judging.judge.Kinds as judge_kinds
use Rattle.read_judge.proofs.judging.judge.Reads as judging
use Rattle.read_judge.proofs.admitting.judge_numbers.Kinds as judge_numbers_kinds
use Rattle.read_judge.proofs.admitting.judge_numbers.Reads as judge_numbers
use Rattle.read_judge.proofs.texts.score.Kinds as score_kinds
use Rattle.read_judge.proofs.texts.score.Reads as score

admit_one : OneResult 1 admit_kinds.ps admit_kinds.r admit.Post
admit_one κs a x y s t p q = p ∙ sym q

survey_one : OneResult 1 survey_kinds.ps survey_kinds.r survey.Post
survey_one κs a x y s t p q = p ∙ sym q

judge_one : OneResult 1 judge_kinds.ps judge_kinds.r judging.Post
judge_one κs a x y s t p q = p ∙ sym q

judge_numbers_one : OneResult 1 judge_numbers_kinds.ps judge_numbers_kinds.r judge_numbers.Post
judge_numbers_one κs a x y s t p q = p ∙ sym q

score_one : OneShown 1 score_kinds.ps score_kinds.r score.Post (λ κs x. x.now)
score_one κs a x y s t p q = p.0 ∙ sym q.0
