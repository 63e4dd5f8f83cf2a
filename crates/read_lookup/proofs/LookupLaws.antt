-- Lookup, one attribute after the other; and the place that is found has the value that is looked up. Assumes nothing.
use Prim.Native.Nat.{ℕ, zero, suc, ◌+◌, ◌-◌, ◌≤◌, ◌<◌, min}
use native.Mathlib.Omega.{arith}
use native.Mathlib.Nat.{min-eq_left}
use mathlib.Core.Path.{◌≡◌, refl, ◌∙◌}
use mathlib.Core.Logic.{◌⊎◌, inl, inr}
use mathlib.Core.Bool.{cond}
use mathlib.Core.List.{List}
use lib.ListN.{length}
use Rattle.base_lists.proofs.BoolLaws.{ap_cond}
use Rattle.base_lists.proofs.OrderLaws.{le_or_lt}
use Rattle.base_words.specs.Same.{same}
use Rattle.base_scan.specs.Part.{text_at}
use Rattle.percent_coding.specs.Percent.{decoded}
use Rattle.read_attributes.specs.declared.field.Field.{Field}
use Rattle.std.specs.Prelude.{Option, Some, None, Result, Ok, Err}
use Rattle.std.specs.Result.{result_unwrap_or}
use Rattle.base_refusals.specs.declared.Refusal.{Refusal}
use Rattle.base_scan.specs.declared.place.Place.{Place}
use Rattle.read_attributes.specs.Attributes.{walk_from}
use Rattle.read_attributes.specs.Step.{next_field}
use Rattle.read_lookup.specs.Lookup.{lookup_in, lookup, or_else, value_or, find_in, find_tag}
use Rattle.read_attributes.proofs.WalkLaws.{Hands, Meets, field_meets, walk_past}

-- behind the column's end nothing is found, from whichever cursor
find_clipped : (tag s : List ℕ) (at : ℕ)
    → let end = min at (length s) in find_in tag at (walk_from s end) ≡ find_in tag end (walk_from s end)
unfolding find_in
find_clipped tag s at = go (le_or_lt at (length s))
  where
    go : (at ≤ length s) ⊎ (length s < at)
        → let end = min at (length s) in find_in tag at (walk_from s end) ≡ find_in tag end (walk_from s end)
    go (inl h) = rw (min-eq_left h)
    go (inr h) = rw (walk_past s (min at (length s)) (omega arith))

-- one attribute, and those behind it
pub find_next : (tag s : List ℕ) (at : ℕ) (field : Field) → Hands s at field
    → find_in tag at (walk_from s at)
    ≡ cond (same (decoded (text_at field.tag s)) tag) (Ok (Some field.value)) (find_in tag field.next (walk_from s field.next))
unfolding find_in
find_next tag s at field h = rw (h.met, ← h.value_start, ← h.value_end, h.next, find_clipped tag s (field.value.end + 1))

-- ── the value at the place ────────────────────────────────────────────────────────────────────

-- what an answer says, read in the column
abbrev pub looked : List ℕ → Result (Option Place) Refusal → Result (Option (List ℕ)) Refusal
looked column (Ok (Some place)) = Ok (Some (text_at place column))
looked column (Ok None) = Ok None
looked column (Err r) = Err r

looked_from : (n : ℕ) (tag s : List ℕ) (at : ℕ) → length s - at < n
    → looked s (find_in tag at (walk_from s at)) ≡ lookup_in tag (walk_from s at)
unfolding find_in lookup_in
looked_from zero tag s at h = absurd (omega arith)
looked_from (suc n) tag s at h = go (next_field s at) (field_meets s at) (looked_from n tag s)
  where
    go : (r : Result (Option Field) Refusal) → Meets s at r
        → ((next : ℕ) → length s - next < n → looked s (find_in tag next (walk_from s next)) ≡ lookup_in tag (walk_from s next))
        → looked s (find_in tag at (walk_from s at)) ≡ lookup_in tag (walk_from s at)
    go (Ok None) m more = rw m
    go (Err r) m more = rw m.1
    go (Ok (Some field)) m more = rw (find_next tag s at field m, m.met, ap_cond (looked s), more field.next (omega arith))

-- the place that is found has the value that is looked up; where none is found, none is there, and 5 comes first for both
pub looked_up : (column tag : List ℕ) → looked column (find_tag column tag) ≡ lookup column tag
unfolding find_tag
looked_up column tag = looked_from (length column + 1) tag column 0 (omega arith)

-- what `find_tag` answered, as its caller has it
pub value_by : (column tag fallback : List ℕ) {r k : Result (Option Place) Refusal} → r ≡ find_tag column tag → r ≡ k
    → value_or column tag fallback ≡ or_else fallback (looked column k)
unfolding value_or
value_by column tag fallback e f = rw (← f, e, looked_up column tag)

-- where a refusal counts as an absent tag the value is the same
module _ (column fallback : List ℕ) where
  or_absent : (r : Result (Option Place) Refusal)
      → or_else fallback (looked column r) ≡ or_else fallback (looked column (Ok (result_unwrap_or r None)))
  or_absent (Ok k) = refl
  or_absent (Err r) = refl

  pub value_in : (tag : List ℕ) {r : Result (Option Place) Refusal} {k m : Option Place} → r ≡ find_tag column tag
      → k ≡ result_unwrap_or r None → k ≡ m → value_or column tag fallback ≡ or_else fallback (looked column (Ok m))
  value_in tag {r} e f g = value_by column tag fallback e refl ∙ or_absent r ∙ rw (← f, g) refl

  -- so where it finds none
  pub value_absent : (tag : List ℕ) → result_unwrap_or (find_tag column tag) None ≡ None → value_or column tag fallback ≡ fallback
  value_absent tag e = value_in tag refl refl e
