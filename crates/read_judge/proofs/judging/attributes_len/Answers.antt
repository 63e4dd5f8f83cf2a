-- `attributes_len`: what is counted, and the attributes from the cursor on, are the whole. The sum is at most twelve bytes for each byte that
-- the walk has passed. Assumes nothing.
use Prim.Native.Nat.{◌+◌, ◌≤◌}
use native.Mathlib.Omega.{arith}
use mathlib.Core.Path.{ap}
use mathlib.Core.List.{List, flat_map}
use lib.ListN.{length, length-append}
use Rattle.base_lists.specs.Bytes.{percent, comma}
use Rattle.base_scan.specs.Part.{text_at}
use Rattle.read_attributes.specs.Attributes.{Attribute, attribute, walk_from}
use Rattle.read_attributes.proofs.WalkLaws.{Hands, leads}
use Rattle.sheet_form.specs.Sheet.{attribute_of}
use Rattle.read_judge.proofs.AttributesLaws.{rest, got_next, got_ended}
use Rattle.read_judge.proofs.PlainLaws.{ahead_at, ahead_behind, plain_field}
use Rattle.read_judge.proofs.judging.attributes_len.Goals as goal
use Rattle.read_judge.proofs.judging.attributes_len.Goals.{After-text-in-Some}

-- the attribute that the step hands out
hands : (c : After-text-in-Some) → Hands c.args.column.now c.loop-field.at c.in-Some.field
hands c = leads _ _ c.next_field.ensures c.unwrap_or.ensures c.in-Some.is

-- the bytes that it takes, with its `=`
passed : (c : After-text-in-Some)
    → (c.loop-field.at + length c.text.result.now + length c.text-in-Some.result.now + 1 ≤ c.in-Some.field.next)
    × (c.in-Some.field.next ≤ length c.args.column.now)
passed c =
    let h = hands c in
    let t = ap length c.text.ensures in
    let v = ap length c.text-in-Some.ensures in
    (omega arith, omega arith)

pub loop-field-init : goal.loop-field-init
loop-field-init c =
    let a = c.args in (
      omega arith,
      omega arith,
      c.requires.1,
      omega arith,
      rw c.find-percent.ensures.first (ahead_at percent a.column.now 0),
      rw c.find-comma.ensures.first (ahead_at comma a.column.now 0),
    )

pub attribute_len-n-requires : goal.attribute_len-n-requires
attribute_len-n-requires c =
    let h = passed (goal.at.attribute_len-n-requires c).After-text-in-Some in
    let i = c.loop-field.invariant in
    let few = c.requires.0 in
    (omega arith, omega arith, λ e. rw (c.text.ensures, c.text-in-Some.ensures) (plain_field (hands (goal.at.attribute_len-n-requires c).After-text-in-Some) c.loop-field.invariant.4 c.loop-field.invariant.5 e))

pub overflow_add-n : goal.overflow_add-n
overflow_add-n c =
    let k = passed (goal.at.overflow_add-n c).After-text-in-Some in
    omega (arith, c.attribute_len-n.ensures.1, c.loop-field.invariant.1, c.requires.0)

pub loop-field-smaller : goal.loop-field-smaller
loop-field-smaller c = let k = passed (goal.at.loop-field-smaller c).After-text-in-Some in omega arith

pub loop-field-preserved : goal.loop-field-preserved
unfolding flat_map
loop-field-preserved c =
    let l = c.loop-field in
    let field = c.in-Some.field in
    let s = c.args.column.now in
    let h = hands (goal.at.loop-field-preserved c).After-text-in-Some in
    let k = passed (goal.at.loop-field-preserved c).After-text-in-Some in
    let more = got_next h c.loop-field.invariant.2 in
    let a = attribute (text_at c.in-Some.field.tag s) (text_at c.in-Some.field.value s) in
    let one = rw (c.text.ensures, c.text-in-Some.ensures) at c.attribute_len-n.ensures.0 in (
      omega arith,
      omega (arith, c.attribute_len-n.ensures.1),
      more.0,
      omega (
        arith,
        c.loop-field.invariant.3,
        one,
        ap (λ (l : List Attribute). length (flat_map attribute_of l)) more.1,
        length-append (attribute_of a) (rest (walk_from s c.in-Some.field.next)),
      ),
      rw c.find_on-percent.ensures (ahead_behind c.in-Some.field.value.end _ c.loop-field.invariant.4 (omega arith) (omega arith)),
      rw c.find_on-comma.ensures (ahead_behind c.in-Some.field.value.end _ c.loop-field.invariant.5 (omega arith) (omega arith)),
    )

pub returns : goal.returns
unfolding flat_map
returns c =
    let ended = got_ended _ _ (leads _ _ c.next_field.ensures c.unwrap_or.ensures c.in_default.is) c.loop-field.invariant.2 in
    let all = rw ended at c.loop-field.invariant.3 in
    omega (arith, all)
