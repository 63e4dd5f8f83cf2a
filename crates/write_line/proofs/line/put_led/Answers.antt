-- `put_led`: a byte, and the section behind it. Assumes nothing.
use Rattle.sheet_form.proofs.PastLaws.{past_weaken}
use Rattle.write_line.proofs.line.put_led.Goals as goal

pub returns : goal.returns
returns g c = past_weaken (λ t p. g.S.Sink.laws.joins _ _ _ _ _ c.byte.ensures p) c.put_text.ensures
