-- `unfold_at_once`: refused, or the sheet, which fits. Assumes nothing.
use mathlib.Core.Path.{sym, ◌∙◌}
use Rattle.std.proofs.lemmas.Result.{err_from_is_err_and}
use Rattle.base_buffer.proofs.LaidLaws.{lays_length}
use Rattle.read_judge.proofs.SurveyLaws.{admitted_is, unstuck}
use Rattle.read_record.proofs.UnfoldLaws.{unfolds_not, unfolds_at_once}
use Rattle.read_record.proofs.lay.unfold_at_once.Goals as goal

pub returns-in_err-numbers : goal.returns-in_err-numbers
returns-in_err-numbers c =
    let p = err_from_is_err_and c.from_residual.result c.from_residual.ensures.1 in
    rw (p.1, p.2) (unfolds_not c.args.line.now c.args.out.now (sym c.admit.ensures ∙ c.in_err-numbers.was))

pub lay_sheet-requires : goal.lay_sheet-requires
lay_sheet-requires c =
    let s = c.args.line.now in
    let t = admitted_is s (sym c.admit.ensures ∙ c.in_ok-numbers.was) in
    (t.2, unstuck s t.0)

pub shape_of-out : goal.shape_of-out
shape_of-out c = lays_length c.lay_sheet.ensures

pub returns : goal.returns
returns c =
    unfolds_at_once c.args.line.now c.args.out.now (sym c.admit.ensures ∙ c.in_ok-numbers.was) c.requires
    c.lay_sheet.ensures
