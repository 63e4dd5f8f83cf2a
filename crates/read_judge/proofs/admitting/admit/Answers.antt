-- `admit`: the length, the record, and then column 9. Assumes nothing.
use borrow.Author.Tests.{lt-ltb, le-ltb}
use mathlib.Core.Path.{sym, ◌∙◌}
use Rattle.std.proofs.lemmas.Result.{err_from_is_err_and}
use Rattle.base_buffer.specs.Answer.{unless}
use Rattle.read_columns.specs.Columns.{ends}
use Rattle.read_judge.proofs.ReadLaws.{read, read_refused}
use Rattle.read_judge.proofs.admitting.admit.Goals as goal

pub returns-then-line-gt-MOST_LINE : goal.returns-then-line-gt-MOST_LINE
unfolding unless
returns-then-line-gt-MOST_LINE c = rw (lt-ltb _ _ c.if-line-gt-MOST_LINE.true)

pub admit_fields-requires : goal.admit_fields-requires
admit_fields-requires c = sym c.record_of.ensures ∙ c.in_ok-record_of.was

pub returns : goal.returns
returns c =
    let s = c.args.line.now in
    rw (le-ltb _ _ c.if-line-gt-MOST_LINE.false, (read s (sym c.record_of.ensures ∙ c.in_ok-record_of.was)).columns)
    c.admit_fields.ensures

pub returns-in_err-record_of : goal.returns-in_err-record_of
returns-in_err-record_of c =
    let s = c.args.line.now in
    let p = err_from_is_err_and c.from_residual.result c.from_residual.ensures.1 in
    rw (p.1, p.2, le-ltb _ _ c.if-line-gt-MOST_LINE.false)
    (read_refused s (λ n. (n, ends s)) (sym c.record_of.ensures ∙ c.in_err-record_of.was))
