-- Past the end nothing is laid. Assumes nothing.
use mathlib.Core.Path.{refl, sym}
use native.Mathlib.Omega.{arith}
use Rattle.base_buffer.proofs.LaidLaws.{laid_past}
use Rattle.base_sink.proofs.PageSink.text.Goals as goal

pub returns-else-self : goal.returns-else-self
returns-else-self c = record { same = refl; left = sym (laid_past _ _ _ (omega (arith, c.if-self.false))); end = omega (arith, c.if-self.false) }
