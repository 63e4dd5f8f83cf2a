-- The cursors that C gets from `gff3_next_field` and `gff3_next_value` (RULES 16.2): they are never beyond the text, and where the walk is done
-- or refused another call with them answers the same. Assumes nothing.
use Prim.Native.Nat.{ℕ, ◌≤◌, ◌<◌}
use native.Mathlib.Omega.{arith}
use native.Mathlib.Nat.{min-eq_left}
use mathlib.Core.Path.{◌≡◌, refl}
use mathlib.Core.Logic.{◌⊎◌, inl, inr}
use mathlib.Core.List.{List}
use lib.ListN.{length}
use borrow.Author.Tests.{le-leb}
use Rattle.base_lists.proofs.OrderLaws.{le_or_lt}
use Rattle.std.specs.Prelude.{Option, Some, None, Result, Ok, Err}
use Rattle.base_refusals.specs.declared.Refusal.{Refusal}
use Rattle.base_scan.specs.declared.place.Place.{Place}
use Rattle.read_attributes.specs.declared.field.Field.{Field}
use Rattle.read_attributes.specs.Step.{next_field}
use Rattle.read_attributes.proofs.WalkLaws as walk
use Rattle.read_values.specs.declared.ValueCursor.{ValueCursor}
use Rattle.read_values.specs.Step.{next_value}
use Rattle.read_values.proofs.ValueLaws as values
use Rattle.c_answers.specs.Answers.{clipped}
use Rattle.c_attributes.specs.declared.Gff3Field.{Gff3Field}
use Rattle.c_attributes.specs.Attribute.{c_field, c_next_field, cursor_of_c, c_value, c_next_value}

module _ (s : List ℕ) (at : ℕ) where
  abbrev here : ℕ
  here = clipped s at

  -- a cursor that is clipped is clipped no further
  clipped_once : clipped s here ≡ here
  clipped_once = omega arith

  -- ── the walk over column 9 ──────────────────────────────────────────────────────────────────

  -- the next cursor is never beyond the column
  pub field_next_inside : (c_next_field s at).next ≤ length s
  field_next_inside = go (next_field s at) (walk.field_meets s at)
    where
      go : (r : Result (Option Field) Refusal) → walk.Meets s at r → (c_field here r).next ≤ length s
      go (Ok None) m = omega arith
      go (Err r) m = omega arith
      go (Ok (Some field)) m = omega arith

  -- a cursor beyond the column counts as at its end
  clipped_same : next_field s here ≡ next_field s at
  unfolding next_field
  clipped_same = go (le_or_lt at (length s))
    where
      go : (at ≤ length s) ⊎ (length s < at) → next_field s here ≡ next_field s at
      go (inl h) = rw (min-eq_left h)
      go (inr h) = rw (le-leb (length s) at (omega arith), le-leb (length s) here (omega arith))

  -- no attribute was handed out
  abbrev Ended : Gff3Field → Type 0
  Ended r = (r.done ≡ 1) ⊎ (r.refused ≡ 5)

  -- once done, done, and once refused, refused: the next call answers the same
  pub field_ended_again : Ended (c_next_field s at) → c_next_field s (c_next_field s at).next ≡ c_next_field s at
  field_ended_again = go (next_field s at) refl
    where
      go : (r : Result (Option Field) Refusal) → next_field s at ≡ r → Ended (c_field here r) → c_next_field s (c_field here r).next ≡ c_field here r
      go (Ok None) e h = rw (clipped_once, clipped_same, e)
      go (Err r) e h = rw (clipped_once, clipped_same, e)
      go (Ok (Some field)) e (inl h) = absurd (omega arith)
      go (Ok (Some field)) e (inr h) = absurd (omega arith)

  -- ── the values of an attribute ──────────────────────────────────────────────────────────────

  module _ (out : ℕ) where
    -- the next cursor is never beyond the value
    pub value_next_inside : (c_next_value s at out).next ≤ length s
    value_next_inside = go (next_value s (cursor_of_c at out)) (values.value_meets s (cursor_of_c at out))
      where
        go : (r : Option (Place × ValueCursor)) → values.Meets s (cursor_of_c at out) r → (c_value here r).next ≤ length s
        go None m = omega arith
        go (Some (place, next)) m = omega arith

    -- once done, done: the next call answers the same
    pub value_done_again : let r = c_next_value s at out in r.done ≡ 1 → c_next_value s r.next r.out ≡ r
    unfolding next_value
    value_done_again = go (next_value s (cursor_of_c at out))
      where
        go : (r : Option (Place × ValueCursor)) → let a = c_value here r in a.done ≡ 1 → c_next_value s a.next a.out ≡ a
        go None h = rw clipped_once
        go (Some (place, next)) h = absurd (omega arith)
