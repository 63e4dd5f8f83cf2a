-- `write_comment`: refused, or no room, or a byte and the text behind it. Assumes nothing.
use Rattle.std.specs.Prelude.{◌≡◌, None}
use native.Mathlib.Omega.{arith}
use Rattle.std.proofs.lemmas.Result.{err_from_is_err_and}
use Rattle.base_buffer.specs.Answer.{refusal_of}
use Rattle.base_buffer.proofs.AnswerLaws.{unless_is, unless_not, wrote_refused, wrote_no_room, wrote_done}
use Rattle.base_buffer.proofs.LaidLaws.{lays_then}
use Rattle.write_comment.specs.Comment.{comment_reasons}
use Rattle.write_comment.proofs.ReasonLaws.{plain}
use Rattle.write_comment.proofs.write_comment.Goals as goal
use Rattle.write_comment.proofs.write_comment.Goals.{In_ok-refusal}

none : (c : In_ok-refusal) → refusal_of (comment_reasons c.args.text.now) ≡ None
none c = (unless_is c.refusal.ensures c.in_ok-refusal.was).0

pub returns-in_err-refusal : goal.returns-in_err-refusal
returns-in_err-refusal c =
    let p = err_from_is_err_and c.from_residual.result c.from_residual.ensures.1 in
    rw (p.1, p.2) (wrote_refused (unless_not _ c.refusal.ensures c.in_err-refusal.was))

pub overflow_add-need : goal.overflow_add-need
overflow_add-need c = omega (arith, (plain _ (none (goal.at.overflow_add-need c).In_ok-refusal)).short)

pub returns-then-out-need : goal.returns-then-out-need
returns-then-out-need c = wrote_no_room (none (goal.at.returns-then-out-need c).In_ok-refusal) (omega arith) c.if-out-need.true

pub returns : goal.returns
returns c =
    wrote_done (none (goal.at.returns c).In_ok-refusal) (omega arith) c.if-out-need.false
    (lays_then c.lay_byte-at.ensures c.lay.ensures)
