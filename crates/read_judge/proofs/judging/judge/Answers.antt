-- `judge` answers what was surveyed. Assumes nothing.
use mathlib.Core.Path.{sym, ◌∙◌}
use Rattle.std.proofs.lemmas.Result.{err_from_is_err_and}
use Rattle.read_judge.proofs.JudgeLaws.{judged_by}
use Rattle.read_judge.proofs.judging.judge.Goals as goal

pub returns : goal.returns
returns c = judged_by c.args.line.now (sym c.survey.ensures ∙ c.in_ok-numbers.was)

pub returns-in_err-numbers : goal.returns-in_err-numbers
returns-in_err-numbers c =
    let p = err_from_is_err_and c.from_residual.result c.from_residual.ensures.1 in
    rw (p.1, p.2) (judged_by c.args.line.now (sym c.survey.ensures ∙ c.in_err-numbers.was))
