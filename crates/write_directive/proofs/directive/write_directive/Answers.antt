-- `write_directive`: refused, or no room, or the line, which is counted first. Assumes nothing.
use Rattle.std.specs.Prelude.{◌≡◌, None, length}
use native.Mathlib.Omega.{arith}
use mathlib.Core.Path.{refl}
use borrow.Author.Rules.{rules}
use Rattle.std.proofs.lemmas.Result.{err_from_is_err_and}
use Rattle.base_buffer.specs.Answer.{refusal_of}
use Rattle.base_buffer.proofs.AnswerLaws.{unless_is, unless_not, wrote_refused, wrote_no_room, wrote_done}
use Rattle.base_sink.proofs.PageLaws.{page_lays}
use Rattle.write_directive.specs.Directive.{directive_reasons, directive_line}
use Rattle.write_directive.proofs.FewLaws.{line_few}
use Rattle.write_directive.proofs.TypedLaws.{sized}
use Rattle.write_directive.proofs.directive.write_directive.Goals as goal
use Rattle.write_directive.proofs.directive.write_directive.Goals.{After-put_directive}

-- no reason holds, and the count is the line's length
counted : (c : After-put_directive)
    → let a = c.args in
    (refusal_of (directive_reasons a.key.now a.value a.first.now a.second.now) ≡ None)
    × (c.put_directive.new.sink.bytes ≡ length (directive_line a.key.now a.value a.first.now a.second.now))
counted c =
    let a = c.args in
    let none = (unless_is c.refusal.ensures c.in_ok-refusal.was).0 in
    (none, omega (arith, c.put_directive.ensures, line_few _ _ _ _ (sized a.value _ c.well_formed.1.0) none))

pub returns-in_err-refusal : goal.returns-in_err-refusal
returns-in_err-refusal c =
    let p = err_from_is_err_and c.from_residual.result c.from_residual.ensures.1 in
    rw (p.1, p.2) (wrote_refused (unless_not _ c.refusal.ensures c.in_err-refusal.was))

pub returns-then-out-need : goal.returns-then-out-need
returns-then-out-need c = let k = counted (goal.at.returns-then-out-need c).After-put_directive in wrote_no_room k.0 (omega (arith, k.1)) c.if-out-need.true

pub returns : goal.returns
returns c =
    let k = counted (goal.at.returns c).After-put_directive in
    wrote_done k.0 (omega (arith, k.1)) c.if-out-need.false (page_lays refl c.put_directive-2.ensures (search rules))
