-- `find_tag`: the lookup over the whole column is the one from the cursor on. Assumes nothing.
use native.Mathlib.Omega.{arith}
use Rattle.std.proofs.Common.{rules}
use mathlib.Core.Path.{refl, ap, ◌∙◌}
use Rattle.std.specs.Prelude.{Ok}
use Rattle.read_lookup.specs.Lookup.{find_in, find_tag}
use Rattle.read_attributes.proofs.WalkLaws.{Hands, meets}
use Rattle.read_lookup.proofs.LookupLaws.{find_next}
use Rattle.read_lookup.proofs.find_tag.Goals as goal
use Rattle.read_lookup.proofs.find_tag.Goals.{In-Some}

-- the attribute that the step hands out
hands : (c : In-Some) → Hands c.args.column.now c.loop-field.at c.in-Some.field
hands c = meets _ _ c.next_field.ensures (c.in_ok-field.was ∙ ap Ok c.in-Some.is)

pub loop-field-init : goal.loop-field-init
unfolding find_tag
loop-field-init c = (omega arith, refl)

pub returns-then-decodes_to : goal.returns-then-decodes_to
returns-then-decodes_to c =
    rw (
      c.loop-field.invariant.1,
      find_next _ _ _ _ (hands (goal.at.returns-then-decodes_to c).In-Some),
      ← c.text.ensures,
      ← c.decodes_to.ensures,
      c.if-decodes_to.true,
    )

pub loop-field-smaller : goal.loop-field-smaller
loop-field-smaller c = let h = hands (goal.at.loop-field-smaller c).In-Some in omega arith

pub loop-field-preserved : goal.loop-field-preserved
loop-field-preserved c =
    let h = hands (goal.at.loop-field-preserved c).In-Some in
    (omega arith, rw (c.loop-field.invariant.1, find_next _ _ _ _ h, ← c.text.ensures, ← c.decodes_to.ensures, c.if-decodes_to.false))

pub returns : goal.returns
unfolding find_in
returns c = rw (c.loop-field.invariant.1, meets _ _ c.next_field.ensures (c.in_ok-field.was ∙ ap Ok c.in_default.is))

pub returns-in_err-field : goal.returns-in_err-field
unfolding find_in
returns-in_err-field c =
    let m = meets _ _ c.next_field.ensures c.in_err-field.was in rw (c.loop-field.invariant.1, m.1, ← m.0) (search rules)
