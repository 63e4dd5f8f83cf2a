-- `lay_attribute`: the tag, the count of its values, and the values. Assumes nothing.
use mathlib.Core.List.{flat_map, append-nil}
use Rattle.base_buffer.proofs.LaidLaws.{lays_then}
use Rattle.read_attributes.specs.Attributes.{attribute}
use Rattle.sheet_form.specs.Sheet.{counted_of, attribute_of}
use Rattle.read_record.proofs.lay.lay_attribute.Goals as goal

pub lay_text-count-requires : goal.lay_text-count-requires
lay_text-count-requires c h = (c.requires h).0

pub returns-then-plain : goal.returns-then-plain
unfolding attribute attribute_of counted_of flat_map
returns-then-plain c =
    rw ((c.requires c.if-plain.true).1, append-nil)
    (lays_then c.lay_text-count.ensures (lays_then c.lay_count-only.ensures c.lay_section.ensures))

pub returns : goal.returns
unfolding attribute attribute_of counted_of
returns c =
    lays_then c.lay_text-count.ensures
    (lays_then (rw c.value_count.ensures at c.lay_count-first.ensures) c.lay_values.ensures)
