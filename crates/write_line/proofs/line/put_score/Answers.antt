-- `put_score`: a tab, and the token at the cursor. Assumes nothing.
use Rattle.sheet_form.proofs.CursorLaws.{section_meets}
use Rattle.write_line.proofs.PassLaws.{passes_section, passes_none}
use Rattle.write_line.proofs.line.put_score.Goals as goal

pub returns-in_err-place : goal.returns-in_err-place
returns-in_err-place g c = rw c.from_residual.ensures (passes_none (section_meets _ _ c.section_at.ensures c.in_err-place.was))

pub returns : goal.returns
returns g c =
    passes_section (section_meets _ _ c.section_at.ensures c.in_ok-place.was)
    (g.S.Sink.laws.joins _ _ _ _ _ c.byte.ensures (rw c.text.ensures at c.put_token.ensures))
