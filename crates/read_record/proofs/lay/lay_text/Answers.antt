-- `lay_text`: a text that decoding leaves as it is may be copied. Assumes nothing.
use Rattle.base_buffer.proofs.LaidLaws.{lays_length}
use Rattle.read_record.proofs.lay.lay_text.Goals as goal

pub returns-then-plain : goal.returns-then-plain
returns-then-plain c = rw (c.requires c.if-plain.true) c.lay_section.ensures

pub shape_of-out : goal.shape_of-out
shape_of-out c = lays_length c.lay_decoded_section.ensures

pub returns : goal.returns
returns c = c.lay_decoded_section.ensures
