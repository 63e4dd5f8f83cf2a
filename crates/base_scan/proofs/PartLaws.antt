-- Laws of `part`, at the edges, at a cursor that `found` moved, and before the place that it found. Assumes nothing.
use Prim.Native.Nat.{ℕ, zero, suc, ◌+◌, ◌-◌, ◌≤◌, ◌<◌}
use native.Mathlib.Omega.{arith}
use mathlib.Core.Path.{◌≡◌, refl}
use mathlib.Core.Logic.{◌⊎◌, inl, inr}
use mathlib.Core.Bool.{Bool, true, false, cond}
use mathlib.Core.List.{List, [], ◌∷◌}
use lib.ListN.{length, take, drop, length-drop, drop_of_length-le}
use lib.Seq.{drop-drop, drop-nil, take-nil, take_all, length-take-le}
use borrow.Author.Tests.{eqb-false}
use Rattle.base_lists.specs.Bytes.{Lacks}
use Rattle.base_lists.proofs.OrderLaws.{le_or_lt}
use Rattle.base_scan.specs.Find.{index, seek, is, found}
use Rattle.base_scan.specs.Part.{part}
use Rattle.base_scan.proofs.FindLaws.{seek_at}

pub length_part : (a e : ℕ) (s : List ℕ) → e ≤ length s → length (part a e s) ≡ e - a
length_part a e s h = length-take-le (e - a) (drop a s) (simp length-drop (omega arith))

pub part_none : (a e : ℕ) (s : List ℕ) → e ≤ a → [] ≡ part a e s
part_none a e s h = let z : e - a ≡ 0 = omega arith in rw z

pub part_past : (a e : ℕ) (s : List ℕ) → length s ≤ a → [] ≡ part a e s
part_past a e s h = rw (drop_of_length-le s h, take-nil (e - a))

pub part_rest : (a e : ℕ) (s : List ℕ) → length s ≤ e → part a (length s) s ≡ part a e s
part_rest a e s h =
    rw (take_all (length s - a) (drop a s) (simp length-drop (omega arith)), take_all (e - a) (drop a s) (simp length-drop (omega arith)))

module _ (c at : ℕ) (s : List ℕ) (inside : at ≤ length s) where
  -- what stands before the separator, and behind it
  pub part_found : take (index (is c) (drop at s)) (drop at s) ≡ part at (found c at s) s
  part_found = let e : found c at s - at ≡ index (is c) (drop at s) = omega (arith, seek_at (is c) at s inside) in rw e

  pub drop_found : drop (suc (index (is c) (drop at s))) (drop at s) ≡ drop (found c at s + 1) s
  drop_found =
      let e : at + suc (index (is c) (drop at s)) ≡ found c at s + 1 = omega (arith, seek_at (is c) at s inside) in rw (drop-drop, e)

-- ── before the place that was found ───────────────────────────────────────────────────────────

module _ (c : ℕ) where
  -- n bytes from a on, before the first c
  lacks_first : (s : List ℕ) (a n : ℕ) → a + n ≤ index (is c) s → Lacks c (take n (drop a s))
  unfolding index
  lacks_first s a zero h = tt
  lacks_first [] a (suc n) h = rw (drop-nil a) tt
  lacks_first (x ∷ s) zero (suc n) h = go (is c x) refl h (lacks_first s zero n)
    where
      go : (t : Bool) → is c x ≡ t → 0 + suc n ≤ cond t zero (suc (index (is c) s))
          → (0 + n ≤ index (is c) s → Lacks c (take n s)) → Lacks c (x ∷ take n s)
      go true k h rest = absurd (omega arith)
      go false k h rest = (eqb-false x c k, rest (omega arith))
  lacks_first (x ∷ s) (suc a) (suc n) h = go (is c x) h (lacks_first s a (suc n))
    where
      go : (t : Bool) → suc a + suc n ≤ cond t zero (suc (index (is c) s)) → (a + suc n ≤ index (is c) s → Lacks c (take (suc n) (drop a s)))
          → Lacks c (take (suc n) (drop a s))
      go true h rest = absurd (omega arith)
      go false h rest = rest (omega arith)

  -- so where it was sought from a place at or before a on
  lacks_found : (s : List ℕ) (k a n : ℕ) → k ≤ a → a + n ≤ found c k s → Lacks c (take n (drop a s))
  unfolding seek
  lacks_found s k a zero h l = tt
  lacks_found s zero a (suc n) h l = lacks_first s a (suc n) l
  lacks_found [] (suc k) a (suc n) h l = absurd (omega arith)
  lacks_found (x ∷ s) (suc k) zero (suc n) h l = absurd (omega arith)
  lacks_found (x ∷ s) (suc k) (suc a) (suc n) h l = lacks_found s k a (suc n) (omega arith) (omega arith)

  -- a part that ends before the place lacks c
  pub lacks_part : (s : List ℕ) (k a e : ℕ) → k ≤ a → e ≤ found c k s → Lacks c (part a e s)
  lacks_part s k a e h l = go (le_or_lt a e)
    where
      go : (a ≤ e) ⊎ (e < a) → Lacks c (part a e s)
      go (inl m) = lacks_found s k a (e - a) h (omega arith)
      go (inr m) = rw (← part_none a e s (omega arith)) tt

-- a part from the front on has its first c no later than the text
pub front_le : (c n : ℕ) (s : List ℕ) → index (is c) (take n s) ≤ index (is c) s
unfolding index
front_le c zero s = omega arith
front_le c (suc n) [] = omega arith
front_le c (suc n) (x ∷ s) = go (is c x) (front_le c n s)
  where
    go : (t : Bool) → index (is c) (take n s) ≤ index (is c) s → cond t 0 (suc (index (is c) (take n s))) ≤ cond t 0 (suc (index (is c) s))
    go true h = omega arith
    go false h = omega arith
