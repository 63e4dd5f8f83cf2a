-- `verdict_of`: the kind, and for a record what it is judged to be. Assumes nothing.
use mathlib.Core.Path.{◌≡◌, sym, ◌∙◌}
use Rattle.read_kind.specs.declared.kind.Kind.TheVariants as kinds
use Rattle.read_kind.specs.Kind.{kind}
use Rattle.read_verdict.proofs.VerdictLaws.{of_kind, of_numbers}
use Rattle.read_verdict.proofs.verdict_of.Goals as goal
use Rattle.read_verdict.proofs.verdict_of.Goals.{In-Record}

-- the line is of kind record
is_record : (c : In-Record)
    → kind c.args.line.now ≡ kinds.Record
is_record c = sym c.kind_of.ensures ∙ c.in-Record.is

pub returns-in-Directive : goal.returns-in-Directive
returns-in-Directive c = of_kind c.args.line.now (sym c.kind_of.ensures ∙ c.in-Directive.is)

pub returns-in-Comment : goal.returns-in-Comment
returns-in-Comment c = of_kind c.args.line.now (sym c.kind_of.ensures ∙ c.in-Comment.is)

pub returns-in-Ok : goal.returns-in-Ok
returns-in-Ok c = of_numbers c.args.line.now (is_record (goal.at.returns-in-Ok c).In-Record) (sym c.judge_numbers.ensures ∙ c.in-Ok.is)

pub returns-in-Err : goal.returns-in-Err
returns-in-Err c = of_numbers c.args.line.now (is_record (goal.at.returns-in-Err c).In-Record) (sym c.judge_numbers.ensures ∙ c.in-Err.is)
