-- `count_line`: as many bytes as with positions of one digit, and the digits that they have more. Assumes nothing.
use native.Mathlib.Omega.{arith}
use mathlib.Core.Path.{sym, ◌∙◌}
use Rattle.sheet_form.specs.Sheet.{sheet_read}
use Rattle.write_decimals.proofs.DecimalLaws.{decimal_some}
use Rattle.write_line.specs.Record.{record_line}
use Rattle.write_line.proofs.CountLaws.{count_met, count_none}
use Rattle.write_line.proofs.line.count_line.Goals as goal

pub returns-then-not-put_as_far : goal.returns-then-not-put_as_far
returns-then-not-put_as_far c = count_none _ _ (sym c.put_as_far.ensures.form ∙ c.if-not-put_as_far.true)

pub overflow_sub-digits : goal.overflow_sub-digits
overflow_sub-digits c = omega (arith, decimal_some c.args.start, decimal_some c.args.end)

pub returns : goal.returns
unfolding record_line
returns c =
    let a = c.args in
    let form = sym c.put_as_far.ensures.form ∙ c.if-not-put_as_far.false in
    rw (c.saturating_add.ensures, c.decimal_len.ensures.0, c.decimal_len-2.ensures.0)
    (count_met _ (sheet_read a.sheet.now) a.start a.end a.strand a.phase _ form (λ s e. omega (arith, c.put_as_far.ensures.line s e)))
