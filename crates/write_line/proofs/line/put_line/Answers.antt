-- `put_line`: where the sheet has not the form, its line is empty, and nothing was put. Assumes nothing.
use mathlib.Core.Path.{sym, ◌∙◌}
use Rattle.sheet_form.specs.Sheet.{sheet_read}
use Rattle.write_line.specs.Record.{record_line}
use Rattle.write_line.proofs.CountLaws.{no_line}
use Rattle.write_line.proofs.line.put_line.Goals as goal

pub returns-then-not-is_form-clause-line : goal.returns-then-not-is_form-clause-line
unfolding record_line
returns-then-not-is_form-clause-line g c =
    let a = c.args in
    let none = sym c.is_form.ensures ∙ c.if-not-is_form.true in
    rw (no_line _ (sheet_read a.sheet.now) a.start a.end a.strand a.phase none) (g.S.Sink.laws.nothing _)
