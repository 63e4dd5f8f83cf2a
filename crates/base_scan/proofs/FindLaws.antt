-- Laws of `index` and `seek`, over any test. Assumes nothing.
use Prim.Native.Nat.{ℕ, zero, suc, ◌+◌, ◌-◌, ◌≤◌, ◌<◌}
use native.Mathlib.Omega.{arith}
use native.Mathlib.Numerals.{add-one, one-add}
use mathlib.Core.Path.{◌≡◌, refl, sym, ap}
use mathlib.Core.Logic.{⊎_elim}
use mathlib.Core.Bool.{Bool, true, false, cond}
use mathlib.Core.List.{List, [], ◌∷◌, ◌++◌}
use lib.ListN.{length, take, drop, get_or, length-drop}
use lib.Seq.{take-length, take_all}
use borrow.Author.Tests.{eqb-true, eqb-false}
use Rattle.std.specs.Prelude.{Some, None, position}
use Rattle.std.specs.List.{position_or_len}
use Rattle.std.proofs.lemmas.List.Recursion.{is_position_or_len}
use Rattle.std.proofs.lemmas.Bool.Decides.{nat_tests}
use Rattle.base_lists.specs.Bytes.{Every, Lacks}
use Rattle.base_lists.proofs.OrderLaws.{le_or_lt}
use Rattle.base_scan.specs.Find.{index, seek, is}

module _ (test : ℕ → Bool) where
  pub index_le : (s : List ℕ) → index test s ≤ length s
  unfolding index
  index_le [] = omega arith
  index_le (x ∷ s) = go (test x) (index_le s)
    where
      go : (t : Bool) → index test s ≤ length s → cond t 0 (suc (index test s)) ≤ suc (length s)
      go true h = omega arith
      go false h = omega arith

  -- it is what the library's `position` counts
  index_is : (s : List ℕ) → index test s ≡ position_or_len test s
  unfolding index
  index_is s = is_position_or_len (index test) test refl (λ x xs. rw one-add refl) s

  index_some : (s : List ℕ) (k : ℕ) → position test s ≡ Some k → (index test s ≡ k) × (k < length s)
  index_some s k e = rw (index_is s) (grind (arith, nat_tests, e))

  index_none : (s : List ℕ) → position test s ≡ None → index test s ≡ length s
  index_none s e = rw (index_is s) (grind (arith, nat_tests, e, index_le s, index_is s))

  -- ── from a cursor ──────────────────────────────────────────────────────────────────────────

  pub seek_at : (at : ℕ) (s : List ℕ) → at ≤ length s → seek test at s ≡ at + index test (drop at s)
  unfolding seek
  seek_at zero s h = omega arith
  seek_at (suc at) [] h = absurd (omega arith)
  seek_at (suc at) (x ∷ s) h = omega (arith, seek_at at s (omega arith))

  pub seek_end : (at : ℕ) (s : List ℕ) → length s ≤ at → seek test at s ≡ length s
  unfolding seek index
  seek_end zero [] h = refl
  seek_end zero (x ∷ s) h = absurd (omega arith)
  seek_end (suc at) [] h = refl
  seek_end (suc at) (x ∷ s) h = ap suc (seek_end at s (omega arith))

  pub seek_le : (at : ℕ) (s : List ℕ) → seek test at s ≤ length s
  unfolding seek
  seek_le zero s = index_le s
  seek_le (suc at) [] = omega arith
  seek_le (suc at) (x ∷ s) = omega (arith, seek_le at s)

  pub seek_ge : (at : ℕ) (s : List ℕ) → at ≤ length s → at ≤ seek test at s
  seek_ge at s h = omega (arith, seek_at at s h)

  -- the byte at the cursor passes
  pub seek_here : (at : ℕ) (s : List ℕ) → at < length s → test (get_or s at 0) ≡ true → seek test at s ≡ at
  unfolding seek index
  seek_here zero [] h e = absurd (omega arith)
  seek_here zero (x ∷ s) h e = rw e
  seek_here (suc at) [] h e = absurd (omega arith)
  seek_here (suc at) (x ∷ s) h e = ap suc (seek_here at s (omega arith) e)

  -- it does not
  seek_suc : (at : ℕ) (s : List ℕ) → at < length s → test (get_or s at 0) ≡ false → seek test at s ≡ seek test (suc at) s
  unfolding seek index
  seek_suc zero [] h e = absurd (omega arith)
  seek_suc zero (x ∷ s) h e = rw e
  seek_suc (suc at) [] h e = absurd (omega arith)
  seek_suc (suc at) (x ∷ s) h e = ap suc (seek_suc at s (omega arith) e)

  pub seek_next : (at : ℕ) (s : List ℕ) → at < length s → test (get_or s at 0) ≡ false → seek test at s ≡ seek test (at + 1) s
  seek_next at s h e = rw add-one (seek_suc at s h e)

  -- what stands from the cursor on, searched by the library
  pub seek_some : (at : ℕ) (s : List ℕ) (k : ℕ) → position test (take (length s - at) (drop at s)) ≡ Some k → at + k ≡ seek test at s
  seek_some at s k e =
      let all = take_all (length s - at) (drop at s) (simp length-drop (omega arith)) in
      let found = index_some (drop at s) k (rw all at e) in
      omega (arith, found.0, found.1, length-drop at s, seek_at at s (omega (arith, found.1, length-drop at s)))

  pub seek_none : (at : ℕ) (s : List ℕ) → position test (take (length s - at) (drop at s)) ≡ None → length s ≡ seek test at s
  seek_none at s e =
      let all = take_all (length s - at) (drop at s) (simp length-drop (omega arith)) in
      let none = index_none (drop at s) (rw all at e) in
      ⊎_elim (λ h. omega (arith, none, length-drop at s, seek_at at s h)) (λ h. sym (seek_end at s (omega arith))) (le_or_lt at (length s))

  -- ── what stands before the place, and at it ────────────────────────────────────────────────

  pub fails_before : (s : List ℕ) → Every (λ x. test x ≡ false) (take (index test s) s)
  unfolding index
  fails_before [] = tt
  fails_before (x ∷ s) = go (test x) refl (fails_before s)
    where
      go : (t : Bool) → test x ≡ t → Every (λ y. test y ≡ false) (take (index test s) s)
          → Every (λ y. test y ≡ false) (take (cond t zero (suc (index test s))) (x ∷ s))
      go true e h = tt
      go false e h = (e, h)

  -- a text whose bytes all fail, before another
  pub index_append : (a b : List ℕ) → Every (λ x. test x ≡ false) a → index test (a ++ b) ≡ length a + index test b
  unfolding index
  index_append [] b h = omega arith
  index_append (x ∷ a) b h = rw h.0 (omega (arith, index_append a b h.1))

-- ── one byte ──────────────────────────────────────────────────────────────────────────────────

-- what stands before the first c lacks c
pub lacks_before : (c : ℕ) (s : List ℕ) → Lacks c (take (index (is c) s) s)
unfolding index
lacks_before c [] = tt
lacks_before c (x ∷ s) = go (is c x) refl (lacks_before c s)
  where
    go : (t : Bool) → is c x ≡ t → Lacks c (take (index (is c) s) s) → Lacks c (take (cond t zero (suc (index (is c) s))) (x ∷ s))
    go true e h = tt
    go false e h = (eqb-false x c e, h)

-- and c follows it
pub cut_at : (c : ℕ) (s : List ℕ) → index (is c) s < length s → s ≡ take (index (is c) s) s ++ c ∷ drop (suc (index (is c) s)) s
unfolding index
cut_at c [] h = absurd (omega arith)
cut_at c (x ∷ s) h = go (is c x) refl (cut_at c s) h
  where
    go : (t : Bool) → is c x ≡ t → (index (is c) s < length s → s ≡ take (index (is c) s) s ++ c ∷ drop (suc (index (is c) s)) s)
        → cond t zero (suc (index (is c) s)) < suc (length s)
        → x ∷ s ≡ take (cond t zero (suc (index (is c) s))) (x ∷ s) ++ c ∷ drop (cond t zero (suc (index (is c) s))) s
    go true e rest h = rw (eqb-true x c e)
    go false e rest h = ap (λ (l : List ℕ). x ∷ l) (rest (omega arith))

-- where it is not found there is none
pub lacks_all : (c : ℕ) (s : List ℕ) → index (is c) s ≡ length s → Lacks c s
lacks_all c s e = rw (e, take-length s) at (lacks_before c s)
