-- `write_record`: refused, or no room, or the line. Assumes nothing.
use Rattle.std.specs.Prelude.{◌≡◌, None, length}
use mathlib.Core.Path.{refl, sym}
use Rattle.std.proofs.lemmas.Result.{err_from_is_err_and}
use Rattle.base_buffer.specs.Answer.{refusal_of}
use Rattle.base_buffer.proofs.AnswerLaws.{unless_is, unless_not, wrote_refused, wrote_no_room, wrote_done}
use borrow.Author.Rules.{rules}
use Rattle.base_sink.proofs.PageLaws.{page_lays}
use Rattle.write_measure.specs.Record.{record_reasons, record_line}
use Rattle.write_record.proofs.write.write_record.Goals as goal
use Rattle.write_record.proofs.write.write_record.Goals.{In_ok-need}

-- where the record was measured, no reason holds, and the length is the line's
accepted : (c : In_ok-need)
    → let a = c.args in
    (refusal_of (record_reasons a.sheet.now a.start a.end a.strand a.phase) ≡ None)
    × (c.in_ok-need.need ≡ length (record_line a.sheet.now a.start a.end a.strand a.phase))
accepted c = let k = unless_is c.measure.ensures c.in_ok-need.was in (k.0, sym k.1)

pub returns-then-sheet-out : goal.returns-then-sheet-out
returns-then-sheet-out c = c.write_at_once.ensures

pub returns-in_err-need : goal.returns-in_err-need
returns-in_err-need c =
    let p = err_from_is_err_and c.from_residual.result c.from_residual.ensures.1 in
    rw (p.1, p.2) (wrote_refused (unless_not _ c.measure.ensures c.in_err-need.was))

pub returns-then-out-need : goal.returns-then-out-need
returns-then-out-need c = let k = accepted (goal.at.returns-then-out-need c).In_ok-need in wrote_no_room k.0 k.1 c.if-out-need.true

pub returns : goal.returns
returns c =
    let k = accepted (goal.at.returns c).In_ok-need in
    wrote_done k.0 k.1 c.if-out-need.false (page_lays refl c.put_line.ensures.line (search rules))
