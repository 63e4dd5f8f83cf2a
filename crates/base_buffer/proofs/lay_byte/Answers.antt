-- `lay_byte`: the byte is set, or stands past the end. Assumes nothing.
use mathlib.Core.Path.{refl, sym}
use native.Mathlib.Omega.{arith}
use lib.Seq.{set_out}
use Rattle.base_buffer.specs.Laid.{laid}
use Rattle.base_buffer.proofs.lay_byte.Goals as goal

pub returns-then-at-out : goal.returns-then-at-out
unfolding laid
returns-then-at-out c = record { left = refl; end = omega arith }

pub returns : goal.returns
unfolding laid
returns c = record { left = sym (set_out _ _ _ c.if-at-out.false); end = omega arith }
