-- `refusal` answers the first of the reasons. Assumes nothing.
use Rattle.base_buffer.specs.Answer.{unless}
use Rattle.write_comment.specs.Comment.{comment_reasons}
use Rattle.write_comment.proofs.refusal.Goals as goal

pub returns-then-is_long : goal.returns-then-is_long
unfolding comment_reasons unless
returns-then-is_long c = rw (← c.is_long.ensures, c.if-is_long.true)

pub returns-then-breaks-is_hashed : goal.returns-then-breaks-is_hashed
unfolding comment_reasons unless
returns-then-breaks-is_hashed c =
    rw (← c.is_long.ensures, c.if-is_long.false, ← c.breaks.ensures, ← c.is_hashed.ensures, c.if-breaks-is_hashed.true)

pub returns : goal.returns
unfolding comment_reasons unless
returns c = rw (← c.is_long.ensures, c.if-is_long.false, ← c.breaks.ensures, ← c.is_hashed.ensures, c.if-breaks-is_hashed.false)
