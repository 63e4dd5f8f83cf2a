-- What a count and a section at a cursor mean for the readers from there on. Assumes nothing.
use native.Mathlib.Omega.{arith}
use native.Mathlib.Nat.{add-zero, add-sub_cancel_left}
use mathlib.Core.Path.{◌≡◌, refl, ◌∙◌}
use mathlib.Core.Bool.{Bool, true, false, cond}
use mathlib.Core.List.{List, [], ◌∷◌}
use Prim.Native.Nat.{ℕ, zero, suc, ◌+◌, ◌*◌, ◌≤◌, ◌<◌}
use lib.Dec.{leb}
use lib.ListN.{length, take, drop, get_or, length-drop}
use lib.Seq.{drop-drop, get_or-drop}
use borrow.Author.Tests.{leb-true, leb-false}
use Rattle.std.specs.Prelude.{Option, Some, None}
use Rattle.base_scan.specs.declared.place.Place.{Place}
use Rattle.base_scan.specs.Part.{text_at}
use Rattle.sheet_form.specs.Reader.{no_form, took, form_refusal, byte, read_count, times, counted}
use Rattle.sheet_form.specs.Sheet.{section}
use Rattle.sheet_form.specs.Cursor.{count_refusal, section_refusal, number_at, count_at, section_after, section_at}

-- ── at the front of a text ────────────────────────────────────────────────────────────────────

count_front : (t : List ℕ) → 4 ≤ length t
    → read_count t ≡ took (get_or t 0 0 + 256 * get_or t 1 0 + 65536 * (get_or t 2 0 + 256 * get_or t 3 0)) (drop 4 t)
unfolding read_count
count_front [] h = absurd (omega arith)
count_front (a ∷ []) h = absurd (omega arith)
count_front (a ∷ b ∷ []) h = absurd (omega arith)
count_front (a ∷ b ∷ c ∷ []) h = absurd (omega arith)
count_front (a ∷ b ∷ c ∷ d ∷ t) h = refl

count_short : (t : List ℕ) → length t < 4 → read_count t ≡ no_form
unfolding read_count
count_short [] h = refl
count_short (a ∷ []) h = refl
count_short (a ∷ b ∷ []) h = refl
count_short (a ∷ b ∷ c ∷ []) h = refl
count_short (a ∷ b ∷ c ∷ d ∷ t) h = absurd (omega arith)

bytes_front : (n : ℕ) (t : List ℕ) → n ≤ length t → times byte n t ≡ took (take n t) (drop n t)
unfolding times
bytes_front zero t h = refl
bytes_front (suc n) [] h = absurd (omega arith)
bytes_front (suc n) (x ∷ t) h = rw (bytes_front n t (omega arith))

bytes_short : (n : ℕ) (t : List ℕ) → length t < n → times byte n t ≡ no_form
unfolding times
bytes_short zero t h = absurd (omega arith)
bytes_short (suc n) [] h = refl
bytes_short (suc n) (x ∷ t) h = rw (bytes_short n t (omega arith))

-- ── at a cursor ───────────────────────────────────────────────────────────────────────────────

module _ (s : List ℕ) (at : ℕ) where
  -- a count is read, and the text from `next` on is left
  pub record CountHands (n next : ℕ) : Type 0 where
    pub read : read_count (drop at s) ≡ took n (drop next s)
    pub behind : next ≡ at + 4
    pub inside : next ≤ length s

  -- what an answer says of the reader from a cursor on
  abbrev pub CountMeets : Option (ℕ × ℕ) → Type 0
  CountMeets None = read_count (drop at s) ≡ no_form
  CountMeets (Some (n, next)) = CountHands n next

  count_read_at : at + 4 ≤ length s → read_count (drop at s) ≡ took (number_at s at) (drop (at + 4) s)
  count_read_at h = count_front (drop at s) (simp length-drop (omega arith)) ∙ simp (get_or-drop, drop-drop, add-zero)

  pub count_step_meets : CountMeets (count_at s at)
  unfolding count_at
  count_step_meets = go (leb (at + 4) (length s)) refl
    where
      go : (t : Bool) → leb (at + 4) (length s) ≡ t → CountMeets (cond t (Some (number_at s at, at + 4)) None)
      go true e = let h = leb-true (at + 4) (length s) e in record { read = count_read_at h; behind = refl; inside = h }
      go false e = count_short (drop at s) (simp length-drop (omega (arith, leb-false (at + 4) (length s) e)))

  -- what a count was answered, as its caller has it
  pub count_meets : {r k : Option (ℕ × ℕ)} → r ≡ count_at s at → r ≡ k → CountMeets k
  count_meets e f = rw (← f, e) count_step_meets

  -- the number of its refusal is the reader's
  pub count_refused : count_refusal (count_at s at) ≡ form_refusal (read_count (drop at s))
  count_refused = go (count_at s at) count_step_meets
    where
      go : (r : Option (ℕ × ℕ)) → CountMeets r → count_refusal r ≡ form_refusal (read_count (drop at s))
      go None m = rw m
      go (Some (n, next)) m = rw m.read

  -- a section is read: what stands at the place; its end is the cursor behind it
  pub record SectionHands (place : Place) : Type 0 where
    pub read : section (drop at s) ≡ took (text_at place s) (drop place.end s)
    pub start : place.start ≡ at + 4
    pub ordered : place.start ≤ place.end
    pub inside : place.end ≤ length s

  abbrev pub SectionMeets : Option Place → Type 0
  SectionMeets None = section (drop at s) ≡ no_form
  SectionMeets (Some place) = SectionHands place

  pub section_step_meets : SectionMeets (section_at s at)
  unfolding section_at counted
  section_step_meets = go (count_at s at) count_step_meets
    where
      go : (r : Option (ℕ × ℕ)) → CountMeets r → SectionMeets (section_after s r)
      go None m = rw m
      go (Some (n, start)) m = fits (leb (start + n) (length s)) refl
        where
          fits : (t : Bool) → leb (start + n) (length s) ≡ t
              → SectionMeets (cond t (Some (record { start = start; end = start + n })) None)
          fits true e =
              let h = leb-true (start + n) (length s) e in
              record {
                read = rw (
                  m.read,
                  bytes_front n (drop start s) (simp length-drop (omega arith)),
                  drop-drop n start s,
                  add-sub_cancel_left start n,
                );
                start = m.behind;
                ordered = omega arith;
                inside = h;
              }
          fits false e =
              rw (m.read, bytes_short n (drop start s) (simp length-drop (omega (arith, leb-false (start + n) (length s) e, m.inside))))

  -- what a section was answered, as its caller has it
  pub section_meets : {r k : Option Place} → r ≡ section_at s at → r ≡ k → SectionMeets k
  section_meets e f = rw (← f, e) section_step_meets

  -- the number of its refusal is the reader's
  pub section_refused : section_refusal (section_at s at) ≡ form_refusal (section (drop at s))
  section_refused = go (section_at s at) section_step_meets
    where
      go : (r : Option Place) → SectionMeets r → section_refusal r ≡ form_refusal (section (drop at s))
      go None m = rw m
      go (Some place) m = rw m.read
