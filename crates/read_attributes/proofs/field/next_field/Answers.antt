-- `next_field` answers `next_field`: each return by the tests that led there. Assumes nothing.
use mathlib.Core.Path.{◌≡◌, ap}
use Prim.Native.Nat.{◌+◌}
use borrow.Author.Tests.{le-leb, lt-leb, eq-eqb, ne_eqb}
use Rattle.base_lists.specs.Bytes.{semicolon, equals}
use Rattle.base_scan.specs.declared.Two.{Two}
use Rattle.base_scan.specs.Find.{found}
use Rattle.read_attributes.specs.Step.{next_field}
use Rattle.read_attributes.proofs.field.next_field.Goals as goal
use Rattle.read_attributes.proofs.field.next_field.Goals.{then-is_dot-via-then-is_dot, then-is_dot-via-else-is_dot+then-column-at}

pub returns-then-is_dot : goal.returns-then-is_dot
unfolding next_field
returns-then-is_dot c =
    elim c.then-is_dot.branch [
      | then-is_dot-via-then-is_dot w ↦ rw (← c.is_dot.ensures, w.if-is_dot.true)
      | then-is_dot-via-else-is_dot+then-column-at w ↦ rw (← c.is_dot.ensures, w.if-is_dot.false, le-leb _ _ w.if-column-at.true)
    ]

pub returns-then-equals-column : goal.returns-then-equals-column
unfolding next_field
returns-then-equals-column c =
    let to-equals : (let a = c.args in c.find_two-cuts.result.first ≡ found equals a.at a.column.now) = ap (λ (two : Two). two.first) c.find_two-cuts.ensures.places in
    rw (
      ← c.is_dot.ensures,
      c.if-is_dot.false,
      lt-leb _ _ c.if-column-at.false,
      ← to-equals,
      eq-eqb _ _ c.if-equals-column.true,
    )

pub returns : goal.returns
unfolding next_field
returns c =
    let to-equals : (let a = c.args in c.find_two-cuts.result.first ≡ found equals a.at a.column.now) = ap (λ (two : Two). two.first) c.find_two-cuts.ensures.places in
    let to_end : (let a = c.args in
    c.find_two-cuts.result.second ≡ found semicolon (c.find_two-cuts.result.first + 1) a.column.now) = rw (to-equals) (ap (λ (two : Two). two.second) c.find_two-cuts.ensures.places) in
    rw (
      ← c.is_dot.ensures,
      c.if-is_dot.false,
      lt-leb _ _ c.if-column-at.false,
      c.least.ensures,
      ← to-equals,
      ne_eqb _ _ c.if-equals-column.false,
      to_end,
    )
