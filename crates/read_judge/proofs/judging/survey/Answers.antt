-- `survey`: what is admitted, and the length of its sheet. Assumes nothing.
use mathlib.Core.Path.{sym, ◌∙◌}
use Rattle.std.proofs.lemmas.Result.{err_from_is_err_and}
use Rattle.read_judge.proofs.SurveyLaws.{admitted_is, survey_by, line_short, unstuck}
use Rattle.read_judge.proofs.judging.survey.Goals as goal

pub sheet_len-requires : goal.sheet_len-requires
sheet_len-requires c =
    let s = c.args.line.now in
    let t = admitted_is s (sym c.admit.ensures ∙ c.in_ok-numbers.was) in
    (t.2, line_short s t.0, unstuck s t.0)

pub returns : goal.returns
returns c =
    let s = c.args.line.now in
    rw c.sheet_len.ensures (survey_by s (sym c.admit.ensures ∙ c.in_ok-numbers.was))

pub returns-in_err-numbers : goal.returns-in_err-numbers
returns-in_err-numbers c =
    let p = err_from_is_err_and c.from_residual.result c.from_residual.ensures.1 in
    rw (p.1, p.2) (survey_by c.args.line.now (sym c.admit.ensures ∙ c.in_err-numbers.was))
