-- Laws of `sans`, over any test: at a cursor, and of each byte. Assumes nothing.
use Prim.Native.Nat.{ℕ, ◌+◌, ◌≤◌, ◌<◌}
use native.Mathlib.Numerals.{add-one}
use mathlib.Core.Path.{◌≡◌, refl}
use mathlib.Core.Logic.{◌⊎◌, inl, inr}
use mathlib.Core.Bool.{Bool, true, false, cond}
use mathlib.Core.List.{List, [], ◌∷◌}
use lib.ListN.{length, drop, get_or, drop_of_length-le}
use lib.Seq.{drop-cons}
use Rattle.base_lists.specs.Bytes.{Every, sans}
use Rattle.base_lists.proofs.OrderLaws.{le_or_lt}

module _ (test : ℕ → Bool) where
  module _ (at : ℕ) (s : List ℕ) where
    -- the byte at the cursor passes
    pub sans_past : at < length s → test (get_or s at 0) ≡ true → sans test (drop at s) ≡ drop (at + 1) s
    unfolding sans
    sans_past h e = rw (add-one, drop-cons s at 0 h, e)

    -- it does not, or there is none
    pub sans_stays : (at < length s → test (get_or s at 0) ≡ false) → sans test (drop at s) ≡ drop at s
    unfolding sans
    sans_stays e = go (le_or_lt (length s) at)
      where
        go : (length s ≤ at) ⊎ (at < length s) → sans test (drop at s) ≡ drop at s
        go (inl h) = rw (drop_of_length-le s h)
        go (inr h) = rw (drop-cons s at 0 h, e h)

  -- no byte passes
  pub sans_none : (s : List ℕ) → Every (λ x. test x ≡ false) s → sans test s ≡ s
  unfolding sans
  sans_none [] h = refl
  sans_none (x ∷ s) h = rw h.0

  -- what holds of each byte that is left, and of one that passes, holds of each
  pub sans_every : (P : ℕ → Type 0) → ((x : ℕ) → test x ≡ true → P x) → (s : List ℕ) → Every P (sans test s) → Every P s
  unfolding sans
  sans_every P p [] h = tt
  sans_every P p (x ∷ s) h = go (test x) refl h
    where
      go : (t : Bool) → test x ≡ t → Every P (cond t s (x ∷ s)) → Every P (x ∷ s)
      go true e k = (p x e, k)
      go false e k = k
