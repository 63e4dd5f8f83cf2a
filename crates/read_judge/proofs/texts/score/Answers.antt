-- `score` answers no text for `.`, and else the token. Assumes nothing.
use native.Mathlib.Omega.{arith}
use Rattle.read_judge.specs.Judge.{score_of_token}
use Rattle.read_judge.proofs.texts.score.Goals as goal

pub returns-then-is_dot : goal.returns-then-is_dot
unfolding score_of_token
returns-then-is_dot c = record { text = rw (c.part.ensures, ← c.is_dot.ensures, c.if-is_dot.true); short = rw c.part.ensures (omega arith) }

pub returns : goal.returns
unfolding score_of_token
returns c = record { text = rw (← c.is_dot.ensures, c.if-is_dot.false); short = omega arith }
