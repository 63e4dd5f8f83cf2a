-- `write_decimal`: there is no reason to refuse but the room. Assumes nothing.
use mathlib.Core.Path.{refl}
use Rattle.base_buffer.proofs.AnswerLaws.{wrote_no_room, wrote_done}
use Rattle.write_decimals.proofs.write_decimal.Goals as goal

pub returns-then-out-need : goal.returns-then-out-need
returns-then-out-need c = wrote_no_room refl c.decimal_len-need.ensures.0 c.if-out-need.true

pub returns : goal.returns
returns c = wrote_done refl c.decimal_len-need.ensures.0 c.if-out-need.false c.lay_decimal.ensures
