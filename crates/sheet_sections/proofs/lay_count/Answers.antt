-- `lay_count`: four bytes, one after the other. Assumes nothing.
use Rattle.base_buffer.proofs.LaidLaws.{lays_then}
use Rattle.sheet_form.specs.Sheet.{count_of}
use Rattle.sheet_sections.proofs.lay_count.Goals as goal

pub returns : goal.returns
unfolding count_of
returns c =
    lays_then c.lay_byte-second.ensures
    (lays_then c.lay_byte-third.ensures (lays_then c.lay_byte-last.ensures c.lay_byte.ensures))
