-- `encode`: the text is too long, or there is room for any, or no room, or room for this one. Assumes nothing.
use mathlib.Core.Path.{◌≡◌}
use Rattle.std.specs.Prelude.{None}
use Prim.Native.Nat.{◌+◌, ◌*◌}
use native.Mathlib.Omega.{arith}
use borrow.Author.Tests.{lt-ltb, le-ltb}
use lib.ListN.{length}
use Rattle.base_lists.specs.Limits.{most_text}
use Rattle.base_buffer.specs.Answer.{refusal_of}
use Rattle.base_buffer.proofs.AnswerLaws.{wrote_refused, wrote_no_room, wrote_done}
use Rattle.percent_coding.specs.Percent.{encoded}
use Rattle.percent_sets.specs.Sets.{escapes}
use Rattle.percent_encode.specs.Encode.{encode_reasons}
use Rattle.percent_coding.proofs.PercentLaws.{length_encoded, length_encoded_most}
use Rattle.percent_encode.proofs.encode.Goals as goal
use Rattle.percent_encode.proofs.encode.Goals.{After-count, Else-s-gt-MOST_TEXT}

-- a text that is not too long gives no reason to refuse
no_reason : (c : Else-s-gt-MOST_TEXT) → refusal_of (encode_reasons c.args.s.now) ≡ None
no_reason c = rw (le-ltb most_text (length c.args.s.now) (omega (arith, c.if-s-gt-MOST_TEXT.false)))

-- the length, as the code works it out
measured : (c : After-count)
    → let a = c.args in
    length a.s.now + 2 * c.count.result ≡ length (encoded (escapes a.set) a.s.now)
measured c =
    let a = c.args in
    omega (arith, length_encoded (escapes a.set) a.s.now, c.count.ensures.0)

pub returns-then-s-gt-MOST_TEXT : goal.returns-then-s-gt-MOST_TEXT
returns-then-s-gt-MOST_TEXT c =
    wrote_refused (rw (lt-ltb most_text (length c.args.s.now) (omega (arith, c.if-s-gt-MOST_TEXT.true))))

-- three bytes for each fit, so the text does
pub returns-then-s-out : goal.returns-then-s-out
returns-then-s-out c =
    let a = c.args in
    let few = length_encoded_most (escapes a.set) a.s.now in
    wrote_done (no_reason (goal.at.returns-then-s-out c).Else-s-gt-MOST_TEXT) (omega (arith, c.lay_encoded.ensures.end)) (omega arith) c.lay_encoded.ensures

pub returns-then-out-need : goal.returns-then-out-need
returns-then-out-need c = wrote_no_room (no_reason (goal.at.returns-then-out-need c).Else-s-gt-MOST_TEXT) (measured (goal.at.returns-then-out-need c).After-count) c.if-out-need.true

pub returns : goal.returns
returns c =
    wrote_done (no_reason (goal.at.returns c).Else-s-gt-MOST_TEXT) (measured (goal.at.returns c).After-count) c.if-out-need.false
    c.lay_encoded-2.ensures
