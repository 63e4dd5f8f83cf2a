-- `unfold`: too long, at once, or, by what was surveyed, refused, no room, or the sheet. Assumes nothing.
use mathlib.Core.Path.{sym, ◌∙◌}
use Rattle.std.proofs.lemmas.Result.{err_from_is_err_and}
use Rattle.base_buffer.proofs.LaidLaws.{lays_length}
use Rattle.read_judge.proofs.SurveyLaws.{told, unstuck}
use Rattle.read_record.proofs.UnfoldLaws.{unfolds_long, unfolds_refused, unfolds_no_room, unfolds_done}
use Rattle.read_record.proofs.lay.unfold.Goals as goal

pub returns-then-line-gt-MOST_LINE : goal.returns-then-line-gt-MOST_LINE
returns-then-line-gt-MOST_LINE c = let a = c.args in unfolds_long a.line.now a.out.now c.if-line-gt-MOST_LINE.true

pub returns-then-line-out : goal.returns-then-line-out
returns-then-line-out c = c.unfold_at_once.ensures

pub returns-in_err-numbers : goal.returns-in_err-numbers
returns-in_err-numbers c =
    let a = c.args in
    let p = err_from_is_err_and c.from_residual.result c.from_residual.ensures.1 in
    rw (p.1, p.2) (unfolds_refused a.line.now a.out.now (sym c.survey.ensures ∙ c.in_err-numbers.was))

pub returns-then-out-length : goal.returns-then-out-length
returns-then-out-length c =
    let a = c.args in
    unfolds_no_room a.line.now a.out.now (sym c.survey.ensures ∙ c.in_ok-numbers.was) c.if-out-length.true

pub lay_sheet-requires : goal.lay_sheet-requires
lay_sheet-requires c =
    let s = c.args.line.now in
    let t = told s (sym c.survey.ensures ∙ c.in_ok-numbers.was) in
    (t.bounds_are, unstuck s t.no_reason)

pub shape_of-out : goal.shape_of-out
shape_of-out c = lays_length c.lay_sheet.ensures

pub returns : goal.returns
returns c =
    let a = c.args in
    unfolds_done a.line.now a.out.now (sym c.survey.ensures ∙ c.in_ok-numbers.was) c.if-out-length.false c.lay_sheet.ensures
