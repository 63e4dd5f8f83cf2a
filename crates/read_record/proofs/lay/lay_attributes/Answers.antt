-- `lay_attributes`: what is left to lay are the attributes that the walk meets from the cursor on. Assumes nothing.
use native.Mathlib.Omega.{arith}
use mathlib.Core.Path.{ap}
use mathlib.Core.List.{flat_map}
use lib.ListN.{length}
use Rattle.base_lists.specs.Bytes.{percent, comma}
use Rattle.base_buffer.proofs.LaidLaws.{left_start, lays_rest, lays_length, none_left}
use Rattle.read_attributes.specs.Attributes.{walk}
use Rattle.read_attributes.proofs.WalkLaws.{Hands, leads}
use Rattle.read_judge.proofs.AttributesLaws.{rest, got_next, got_ended}
use Rattle.read_judge.proofs.PlainLaws.{ahead_at, ahead_behind, plain_field}
use Rattle.read_record.proofs.lay.lay_attributes.Goals as goal
use Rattle.read_record.proofs.lay.lay_attributes.Goals.{In-Some}

-- the attribute that the step hands out
hands : (c : In-Some) → Hands c.args.column.now c.loop-field.from c.in-Some.field
hands c = leads _ _ c.next_field.ensures c.unwrap_or.ensures c.in-Some.is

pub loop-field-init : goal.loop-field-init
loop-field-init c =
    let a = c.args in (
      omega arith,
      c.requires,
      rw c.least-to.ensures (left_start (rest (walk a.column.now)) a.out.now a.at),
      omega arith,
      omega arith,
      omega arith,
      rw c.find-percent.ensures.first (ahead_at percent a.column.now 0),
      rw c.find-comma.ensures.first (ahead_at comma a.column.now 0),
    )

-- where it ends before both signs its texts are plain
pub lay_attribute-to-requires : goal.lay_attribute-to-requires
lay_attribute-to-requires c e =
    let i = c.loop-field.invariant in
    rw (c.text.ensures, c.text-in-Some.ensures) (plain_field (hands (goal.at.lay_attribute-to-requires (c)).In-Some) c.loop-field.invariant.6 c.loop-field.invariant.7 e)

-- there are no more of them than bytes
pub overflow_add-count : goal.overflow_add-count
overflow_add-count c =
    let h = hands (goal.at.overflow_add-count c).In-Some in
    omega (arith, c.well_formed)

pub loop-field-smaller : goal.loop-field-smaller
loop-field-smaller c =
    let h = hands (goal.at.loop-field-smaller c).In-Some in
    omega arith

pub loop-field-preserved : goal.loop-field-preserved
unfolding flat_map
loop-field-preserved c =
    let l = c.loop-field in
    let h = hands (goal.at.loop-field-preserved c).In-Some in
    let more = got_next h c.loop-field.invariant.1 in
    let k = rw (c.text.ensures, c.text-in-Some.ensures) at c.lay_attribute-to.ensures in (
      omega (arith, lays_length k, k.end),
      more.0,
      lays_rest (rw more.1 at c.loop-field.invariant.2) k,
      omega (arith, c.loop-field.invariant.3, ap length more.1),
      omega arith,
      omega arith,
      rw c.find_on-percent.ensures (ahead_behind c.in-Some.field.value.end _ c.loop-field.invariant.6 (omega arith) (omega arith)),
      rw c.find_on-comma.ensures (ahead_behind c.in-Some.field.value.end _ c.loop-field.invariant.7 (omega arith) (omega arith)),
    )

pub returns : goal.returns
unfolding flat_map
returns c =
    let ended = got_ended _ _ (leads _ _ c.next_field.ensures c.unwrap_or.ensures c.in_default.is) c.loop-field.invariant.1 in
    let none = rw ended at c.loop-field.invariant.2 in
    let all = rw ended at c.loop-field.invariant.3 in
    (none_left c.loop-field.invariant.0 none, omega (arith, all))
