-- Laws of `same` and `is_dot`. Assumes nothing.
use Prim.Native.Nat.{ℕ, ◌+◌, ◌≤◌, ◌<◌}
use native.Mathlib.Omega.{arith}
use native.Mathlib.Nat.{eq-or-lt_of_le}
use mathlib.Core.Path.{◌≡◌, refl, sym, ap₂}
use mathlib.Core.Logic.{⊎_elim}
use mathlib.Core.Bool.{and-true, and-false, true, false, true≢false}
use mathlib.Core.List.{List, [], ◌∷◌}
use lib.Dec.{eqb}
use borrow.Author.Tests.{eq-eqb, ne_eqb, eqb-true}
use lib.Pointwise.{pointwise}
use lib.ListN.{length, drop, get_or, drop_of_length-le}
use Rattle.base_lists.specs.Bytes.{dot}
use Rattle.base_lists.proofs.BoolLaws.{and_left, and_right}
use Rattle.base_lists.proofs.CursorLaws.{cons_at}
use Rattle.base_words.specs.Same.{same, is_dot}

-- it is equality
pub same_refl : (s : List ℕ) → same s s ≡ true
unfolding same
same_refl [] = refl
same_refl (x ∷ s) = rw (eq-eqb x x refl, same_refl s)

pub same_is : (s t : List ℕ) → same s t ≡ true → s ≡ t
unfolding same
same_is [] [] e = refl
same_is [] (y ∷ t) e = absurd (true≢false (sym e))
same_is (x ∷ s) [] e = absurd (true≢false (sym e))
same_is (x ∷ s) (y ∷ t) e =
    ap₂ ◌∷◌ (eqb-true x y (and_left (eqb x y) (same s t) e)) (same_is s t (and_right (eqb x y) (same s t) e))

-- it is what the library's `==` answers
pub same_pairs : (s t : List ℕ) → pointwise eqb s t ≡ same s t
unfolding same
same_pairs [] [] = refl
same_pairs [] (y ∷ t) = refl
same_pairs (x ∷ s) [] = refl
same_pairs (x ∷ s) (y ∷ t) = rw (same_pairs s t) refl

-- one byte of the first text, and a cursor into the second
module _ (x : ℕ) (d s t : List ℕ) (j : ℕ) (e : d ≡ x ∷ s) where
  pub same_on : j < length t → get_or t j 0 ≡ x → same d (drop j t) ≡ same s (drop (j + 1) t)
  unfolding same
  same_on h p = rw (e, cons_at t j (j + 1) h (omega arith), p, eq-eqb x x refl)

  pub same_off : j < length t → (get_or t j 0 ≡ x → ⊥) → same d (drop j t) ≡ false
  unfolding same
  same_off h p = rw (e, cons_at t j (j + 1) h (omega arith), ne_eqb x (get_or t j 0) (λ q. p (sym q)))

  pub same_short : j ≡ length t → same d (drop j t) ≡ false
  unfolding same
  same_short h = rw (e, drop_of_length-le t {i = j} (omega arith))

pub same_end : (t : List ℕ) (j : ℕ) → j ≤ length t → same [] (drop j t) ≡ eqb j (length t)
unfolding same
same_end t j h =
    ⊎_elim (λ e. rw (drop_of_length-le t {i = j} (omega arith), eq-eqb j (length t) e))
    (λ l. rw (cons_at t j (j + 1) l (omega arith), ne_eqb j (length t) (omega arith)))
    (eq-or-lt_of_le h)

-- `.` is the text of that byte alone
pub same_dot : (s : List ℕ) → same s (dot ∷ []) ≡ is_dot s
unfolding same is_dot
same_dot [] = refl
same_dot (x ∷ []) = and-true (eqb x dot)
same_dot (x ∷ y ∷ s) = and-false (eqb x dot)
