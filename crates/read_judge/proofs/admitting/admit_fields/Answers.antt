-- `admit_fields`: the numbers as they were read, and then column 9. Assumes nothing.
use mathlib.Core.Path.{◌≡◌, sym, ◌∙◌}
use Rattle.read_columns.specs.declared.column.Column.TheVariants as column
use Rattle.read_columns.specs.Columns.{ends, column_text}
use Rattle.read_attributes.specs.Attributes.{attributes, walk}
use Rattle.read_judge.specs.Judge.{stuck}
use Rattle.read_judge.proofs.ReadLaws.{read}
use Rattle.read_judge.proofs.SurveyLaws.{stuck_refuses, unstuck_answers}
use Rattle.read_judge.proofs.admitting.admit_fields.Goals as goal

pub returns-then-is_stuck : goal.returns-then-is_stuck
returns-then-is_stuck c =
    let walked : stuck (attributes (walk (column_text column.Attributes c.args.line.now))) ≡ c.is_stuck.result = sym (rw (c.text_in.ensures.text, (read _ c.requires).bounds_are) at c.is_stuck.ensures) in
    stuck_refuses (λ n. (n, ends c.args.line.now)) c.args.line.now (read _ c.requires).middle (walked ∙ c.if-is_stuck.true)

pub returns : goal.returns
returns c =
    let walked : stuck (attributes (walk (column_text column.Attributes c.args.line.now))) ≡ c.is_stuck.result = sym (rw (c.text_in.ensures.text, (read _ c.requires).bounds_are) at c.is_stuck.ensures) in
    rw (c.numbers_in.ensures, (read _ c.requires).bounds_are)
    (unstuck_answers (λ n. (n, ends c.args.line.now)) c.args.line.now (read _ c.requires).middle (walked ∙ c.if-is_stuck.false))
