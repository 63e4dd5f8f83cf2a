-- `put_text`: the section at the cursor, encoded. Assumes nothing.
use Rattle.sheet_form.proofs.CursorLaws.{section_meets}
use Rattle.write_line.proofs.PassLaws.{passes_section, passes_none}
use Rattle.write_line.proofs.line.put_text.Goals as goal

pub returns-in_err-place : goal.returns-in_err-place
returns-in_err-place g c = rw c.from_residual.ensures (passes_none (section_meets _ _ c.section_at.ensures c.in_err-place.was))

pub returns : goal.returns
returns g c = passes_section (section_meets _ _ c.section_at.ensures c.in_ok-place.was) (rw c.text.ensures at c.encoded.ensures)
