-- `lay_values`: what is left to lay are the values from the cursor on. Assumes nothing.
use native.Mathlib.Omega.{arith}
use mathlib.Core.Path.{ap}
use mathlib.Core.List.{flat_map}
use lib.ListN.{length}
use Rattle.base_buffer.proofs.LaidLaws.{left_start, lays_rest, lays_length, none_left}
use Rattle.read_attributes.specs.Attributes.{values}
use Rattle.read_values.proofs.ValueLaws.{Hands, meets}
use Rattle.sheet_form.specs.Sheet.{section_of}
use Rattle.read_judge.proofs.ValuesLaws.{coming_start, coming_next, sections_next, sections_done}
use Rattle.read_record.proofs.lay.lay_values.Goals as goal

pub loop-place-init : goal.loop-place-init
loop-place-init c =
    let a = c.args in (
      omega arith,
      rw (coming_start a.value.now c.new-cursor.result c.new-cursor.ensures, c.least-to.ensures)
          (left_start (flat_map section_of (values a.value.now)) a.out.now a.at),
    )

pub loop-place-smaller : goal.loop-place-smaller
loop-place-smaller c =
    let hands : Hands c.args.value.now c.loop-place.cursor c.in-Some.place c.in-Some.next = meets _ _ c.next_value.ensures c.in-Some.is in
    omega (arith, ap length (coming_next (hands)))

pub loop-place-preserved : goal.loop-place-preserved
loop-place-preserved c =
    let hands : Hands c.args.value.now c.loop-place.cursor c.in-Some.place c.in-Some.next = meets _ _ c.next_value.ensures c.in-Some.is in
    let k = rw c.text.ensures at c.lay_decoded_section-to.ensures in
    (omega (arith, lays_length k, k.end), lays_rest (rw (sections_next (hands)) at c.loop-place.invariant.1) k)

pub returns : goal.returns
returns c =
    let l = c.loop-place in
    let s = c.args.value.now in
    none_left c.loop-place.invariant.0 (rw (sections_done s c.loop-place.cursor (meets _ _ c.next_value.ensures c.in_default.is)) at c.loop-place.invariant.1)
