-- `lay_section`: the count, and then the text. Assumes nothing.
use Rattle.base_buffer.proofs.LaidLaws.{lays_then}
use Rattle.sheet_form.specs.Sheet.{section_of}
use Rattle.sheet_sections.proofs.lay_section.Goals as goal

pub returns : goal.returns
unfolding section_of
returns c = lays_then c.lay_count-from.ensures c.lay.ensures
