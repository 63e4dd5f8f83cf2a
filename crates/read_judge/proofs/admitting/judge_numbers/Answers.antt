-- `judge_numbers`: what is admitted is what is judged, as far as the numbers go. Assumes nothing.
use mathlib.Core.Path.{sym, ap, ◌∙◌}
use Rattle.std.proofs.lemmas.Result.{err_from_is_err_and}
use Rattle.read_judge.proofs.SurveyLaws.{numbers_admitted, admitted_judged}
use Rattle.read_judge.proofs.admitting.judge_numbers.Goals as goal

pub returns-in_err-numbers : goal.returns-in_err-numbers
returns-in_err-numbers c =
    let p = err_from_is_err_and c.from_residual.result c.from_residual.ensures.1 in
    rw (p.1, p.2) (ap numbers_admitted (sym c.in_err-numbers.was ∙ c.admit.ensures) ∙ admitted_judged c.args.line.now)

pub returns : goal.returns
returns c = ap numbers_admitted (sym c.in_ok-numbers.was ∙ c.admit.ensures) ∙ admitted_judged c.args.line.now
