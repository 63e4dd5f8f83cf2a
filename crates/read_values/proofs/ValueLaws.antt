-- Steps over a value hand out exactly its pieces, in order, and then are done. Assumes nothing.
use Prim.Native.Nat.{ℕ, ◌+◌, ◌≤◌, ◌<◌, min}
use native.Mathlib.Omega.{arith}
use native.Mathlib.Nat.{min-eq_left}
use mathlib.Core.Path.{◌≡◌, refl, sym, ◌∙◌}
use mathlib.Core.Logic.{◌⊎◌, inl, inr}
use mathlib.Core.Bool.{Bool, true, false, cond}
use mathlib.Core.List.{List, [], ◌∷◌}
use lib.ListN.{length, take, drop, drop_of_length-le}
use lib.Seq.{take_all}
use Rattle.base_lists.specs.Bytes.{comma}
use Rattle.base_lists.specs.Steps.{and_on}
use Rattle.base_lists.proofs.OrderLaws.{le_or_lt}
use Rattle.base_lists.proofs.StepLaws.{steps_exact}
use Rattle.base_scan.specs.Find.{is, found}
use Rattle.base_scan.specs.Part.{text_at}
use Rattle.base_scan.specs.declared.place.Place.{Place}
use Rattle.base_scan.proofs.FindLaws.{seek_le, seek_ge}
use Rattle.base_scan.proofs.PartLaws.{length_part}
use Rattle.read_values.specs.declared.ValueCursor.{ValueCursor}
use Rattle.std.specs.Prelude.{Option, Some, None}
use Rattle.read_values.specs.Pieces.{pieces}
use Rattle.read_values.specs.Step.{fresh, value_to, next_value, value_then, value_steps}
use Rattle.read_values.proofs.PiecesLaws.{pieces_next, pieces_few}

-- ── one step ──────────────────────────────────────────────────────────────────────────────────

-- the values that are still to come, as they stand
abbrev pub left : List ℕ → ValueCursor → List (List ℕ)
left s c = cond c.out [] (pieces comma (drop c.at s))

-- the first of them at a place, and the cursor that leaves the others; where the place ends, by the length of its text
pub record Hands (s : List ℕ) (c : ValueCursor) (place : Place) (next : ValueCursor) : Type 0 where
  pub first : left s c ≡ text_at place s ∷ left s next
  pub start : place.start ≡ min c.at (length s)
  pub end : place.end ≡ place.start + length (text_at place s)
  pub inside : place.end ≤ length s
  pub behind : next.at ≡ min (place.end + 1) (length s)

-- what an answer says of them
abbrev pub Meets : List ℕ → ValueCursor → Option (Place × ValueCursor) → Type 0
Meets s c None = left s c ≡ []
Meets s c (Some (place, next)) = Hands s c place next

-- a cursor beyond the text leaves what one at its end does
pub drop_clipped : (at : ℕ) (s : List ℕ) → drop at s ≡ drop (min at (length s)) s
drop_clipped at s = go (le_or_lt at (length s))
  where
    go : (at ≤ length s) ⊎ (length s < at) → drop at s ≡ drop (min at (length s)) s
    go (inl h) = rw (min-eq_left h)
    go (inr h) = drop_of_length-le s {i = at} (omega arith) ∙ sym (drop_of_length-le s {i = min at (length s)} (omega arith))

pub value_meets : (s : List ℕ) (c : ValueCursor) → Meets s c (next_value s c)
unfolding next_value
value_meets s c = go c.out refl
  where
    go : (t : Bool) → c.out ≡ t
        → Meets s c (cond t None (value_to s (min c.at (length s)) (found comma (min c.at (length s)) s)))
    go true e = rw e
    go false e =
        let at = min c.at (length s) in
        let k = found comma at s in
        let within : k ≤ length s = seek_le (is comma) at s in
        record {
          first = rw (e, drop_clipped c.at s, ← drop_clipped (k + 1) s) (pieces_next comma at s);
          start = refl;
          end = omega (arith, length_part at k s within, seek_ge (is comma) at s (omega arith));
          inside = within;
          behind = refl;
        }

-- what a step answered, as its caller has it
pub meets : (s : List ℕ) (c : ValueCursor) {r k : Option (Place × ValueCursor)} → r ≡ next_value s c → r ≡ k → Meets s c k
meets s c e f = rw (← f, e) (value_meets s c)

-- ── steps in a row ────────────────────────────────────────────────────────────────────────────

-- a step hands out the first value that is left
first_left : (s : List ℕ) (c : ValueCursor) (r : Option (Place × ValueCursor)) → Meets s c r → left s c ≡ and_on (value_then s r) (left s)
first_left s c None m = m
first_left s c (Some (place, next)) m = m.first

-- n steps hand out the first n values to come, in order: all, where there are no more, and then the step is done
pub values_exact : (n : ℕ) (s : List ℕ) (c : ValueCursor) → value_steps n s c ≡ take n (left s c)
values_exact n s = steps_exact (next_value s) (value_then s) (left s) (λ c. first_left s c (next_value s c) (value_meets s c)) n

-- so one step more than there are bytes serves for a whole value
pub values_met : (n : ℕ) (s : List ℕ) → length s < n → value_steps n s fresh ≡ pieces comma s
values_met n s h = values_exact n s fresh ∙ take_all n (pieces comma s) (omega (arith, pieces_few comma s))
