-- `values_len`: what is counted, and the values from the cursor on, are the whole. Assumes nothing.
use Prim.Native.Nat.{◌+◌}
use native.Mathlib.Omega.{arith}
use mathlib.Core.Path.{◌≡◌, ap}
use mathlib.Core.List.{flat_map}
use lib.ListN.{length}
use Rattle.read_attributes.specs.Attributes.{values}
use Rattle.read_values.proofs.ValueLaws.{Hands, meets}
use Rattle.sheet_form.specs.Sheet.{section_of, counted_of}
use Rattle.sheet_form.proofs.LengthLaws.{length_counted}
use Rattle.read_judge.proofs.ValuesLaws.{coming, coming_start, coming_next, length_next, sections_done, values_bound}
use Rattle.read_judge.proofs.judging.values_len.Goals as goal
use Rattle.read_judge.proofs.judging.values_len.Goals.{After-decoded_len}

-- what is counted then, and the values behind it, are the whole
counted : (c : After-decoded_len)
    → let s = c.args.value.now in
    length (counted_of section_of
    (values s)) ≡ c.loop-place.n + (4 + c.decoded_len.result) + length (flat_map section_of
    (coming s c.in-Some.next))
counted c =
    let hands : (Hands c.args.value.now c.loop-place.cursor
    c.in-Some.place c.in-Some.next) = meets _ _ c.next_value.ensures c.in-Some.is in
    let e = rw (← c.text.ensures, ← c.decoded_len.ensures.0) at (length_next (hands)) in
    omega (arith, c.loop-place.invariant)

pub loop-place-init : goal.loop-place-init
loop-place-init c =
    let s = c.args.value.now in
    rw (coming_start s c.new-cursor.result c.new-cursor.ensures) (length_counted section_of (values s))

pub overflow_add-n : goal.overflow_add-n
overflow_add-n c = omega (arith, counted (goal.at.overflow_add-n c).After-decoded_len, values_bound c.args.value.now)

pub overflow_add-n-in-Some : goal.overflow_add-n-in-Some
overflow_add-n-in-Some c = omega (arith, counted (goal.at.overflow_add-n-in-Some c).After-decoded_len, values_bound c.args.value.now)

pub loop-place-smaller : goal.loop-place-smaller
loop-place-smaller c =
    let hands : (Hands c.args.value.now c.loop-place.cursor
    c.in-Some.place c.in-Some.next) = meets _ _ c.next_value.ensures c.in-Some.is in
    omega (arith, ap length (coming_next (hands)))

pub loop-place-preserved : goal.loop-place-preserved
loop-place-preserved c = counted (goal.at.loop-place-preserved c).After-decoded_len

pub returns : goal.returns
returns c =
    let s = c.args.value.now in
    let e = ap length (sections_done s c.loop-place.cursor (meets _ _ c.next_value.ensures c.in_default.is)) in
    (omega arith, omega (arith, values_bound s))
