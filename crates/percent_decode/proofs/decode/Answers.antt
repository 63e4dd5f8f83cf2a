-- `decode`: laid at once where the text itself would fit; no room; or laid where the decoded text fits. Assumes nothing.
use mathlib.Core.Path.{refl}
use native.Mathlib.Omega.{arith}
use Rattle.base_buffer.proofs.AnswerLaws.{wrote_no_room, wrote_done}
use Rattle.percent_coding.proofs.PercentLaws.{length_decoded}
use Rattle.percent_decode.proofs.decode.Goals as goal

pub returns-then-s-out : goal.returns-then-s-out
returns-then-s-out c =
    let l = length_decoded c.args.s.now in
    let k = c.lay_decoded.ensures in
    wrote_done refl (omega arith) (omega arith) k

pub returns-then-out-need : goal.returns-then-out-need
returns-then-out-need c = wrote_no_room refl c.decoded_len-need.ensures.0 c.if-out-need.true

pub returns : goal.returns
returns c = wrote_done refl c.decoded_len-need.ensures.0 c.if-out-need.false c.lay_decoded-2.ensures
