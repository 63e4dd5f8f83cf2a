-- The last place of a byte: what it is where no more stand behind a place, how it cuts a text, and where a window has it. Assumes nothing.
use Prim.Native.Nat.{ℕ, zero, suc, ◌+◌, ◌-◌, ◌*◌, ◌^◌, ◌≤◌, ◌<◌}
use native.Mathlib.Omega.{arith}
use native.Mathlib.Numerals.{add-one}
use native.Mathlib.Nat.{mul-suc}
use mathlib.Core.Path.{◌≡◌, refl, ap, ◌∙◌}
use mathlib.Core.Logic.{◌≢◌}
use mathlib.Core.Logic.{◌⊎◌, inl, inr}
use mathlib.Core.Bool.{Bool, true, false, cond}
use mathlib.Core.List.{List, [], ◌∷◌, ◌++◌}
use lib.Count.{count_leading_zeros, leading_length}
use lib.Dec.{ltb}
use lib.Pow.{pow_mono}
use lib.ListN.{length, take, drop, get_or}
use lib.Seq.{length-take-le}
use Rattle.std.proofs.lemmas.List.{get_or-take}
use borrow.Author.Tests.{lt-ltb, le-ltb, ltb-true, ltb-false, eqb-true, eq-eqb, ne_eqb}
use Rattle.base_lists.specs.Bytes.{Lacks}
use Rattle.base_lists.proofs.OrderLaws.{le_or_lt}
use Rattle.base_scan.specs.Find.{index, seek, is, found, found_last}
use Rattle.base_scan.specs.Mask.{mask}
use Rattle.base_scan.proofs.FindLaws.{index_le, lacks_all, seek_next}
use Rattle.base_scan.proofs.MaskLaws.{mask_join, passed}

module _ (c : ℕ) where
  pub last_le : (s : List ℕ) → found_last c s ≤ length s
  unfolding found_last
  last_le [] = omega arith
  last_le (x ∷ s) = go (ltb (index (is c) s) (length s)) (is c x) (last_le s)
    where
      go : (t u : Bool) → found_last c s ≤ length s → cond t (suc (found_last c s)) (cond u zero (suc (length s))) ≤ suc (length s)
      go true u h = omega arith
      go false true h = omega arith
      go false false h = omega arith

  -- the first c is at most where one stands
  first_le : (s : List ℕ) (i : ℕ) → i < length s → is c (get_or s i 0) ≡ true → index (is c) s ≤ i
  unfolding index
  first_le [] i h e = absurd (omega arith)
  first_le (x ∷ s) zero h e = rw e (omega arith)
  first_le (x ∷ s) (suc i) h e = go (is c x) (first_le s i (omega arith) e)
    where
      go : (t : Bool) → index (is c) s ≤ i → cond t 0 (suc (index (is c) s)) ≤ suc i
      go true k = omega arith
      go false k = omega arith

  -- it stands at i, and none behind
  last_suc : (s : List ℕ) (i : ℕ) → i < length s → is c (get_or s i 0) ≡ true → found c (suc i) s ≡ length s → i ≡ found_last c s
  unfolding seek found_last
  last_suc [] i h e none = absurd (omega arith)
  last_suc (x ∷ s) zero h e none = let k : length s ≤ index (is c) s = omega arith in rw (le-ltb _ _ k, e)
  last_suc (x ∷ s) (suc i) h e none =
      let k : index (is c) s < length s = omega (arith, first_le s i (omega arith) e) in
      rw (lt-ltb _ _ k) (ap suc (last_suc s i (omega arith) e (omega arith)))

  pub last_here : (s : List ℕ) (i : ℕ) → i < length s → get_or s i 0 ≡ c → found c (i + 1) s ≡ length s → i ≡ found_last c s
  last_here s i h e none = last_suc s i h (eq-eqb _ _ e) (rw add-one at none)

  -- there is none
  pub last_none : (s : List ℕ) → index (is c) s ≡ length s → length s ≡ found_last c s
  unfolding index found_last
  last_none [] e = refl
  last_none (x ∷ s) e = go (is c x) e
    where
      go : (t : Bool) → cond t 0 (suc (index (is c) s)) ≡ suc (length s)
          → suc (length s) ≡ cond (ltb (index (is c) s) (length s)) (suc (found_last c s)) (cond t zero (suc (length s)))
      go true e = absurd (omega arith)
      go false e = let k : length s ≤ index (is c) s = omega arith in rw (le-ltb _ _ k)

  -- none stands on the n bytes from i on, and none behind them
  none_between : (s : List ℕ) (n i : ℕ) → ((k : ℕ) → i ≤ k → k < i + n → get_or s k 0 ≢ c) → i + n ≤ length s
      → found c (i + n) s ≡ length s → found c i s ≡ length s
  none_between s zero i off h e = let k : i + 0 ≡ i = omega arith in rw k at e
  none_between s (suc n) i off h e =
      let k : i + suc n ≡ i + 1 + n = omega arith in
      seek_next (is c) i s (omega arith) (ne_eqb _ _ (off i (omega arith) (omega arith)))
      ∙ none_between s n (i + 1) (λ j a b. off j (omega arith) (omega arith)) (omega arith) (rw k at e)

  -- none stands from `end` on: what is before it, searched by the library
  module _ (s : List ℕ) (end : ℕ) (inside : end ≤ length s) (behind : found c end s ≡ length s) where
    long : length (take end s) ≡ end
    long = length-take-le end s inside

    off : (k : ℕ) → k < end → get_or (take end s) k 0 ≢ c → get_or s k 0 ≢ c
    off k h d = rw (get_or-take end s k 0 h) at d

    pub last_some : (i : ℕ) → i < length (take end s) → get_or (take end s) i 0 ≡ c
        → ((k : ℕ) → i < k → k < length (take end s) → get_or (take end s) k 0 ≢ c) → i ≡ found_last c s
    last_some i h e after =
        let n = end - (i + 1) in
        let k : i + 1 + n ≡ end = omega (arith, long) in
        last_here s i (omega (arith, long)) (rw (get_or-take end s i 0 (omega (arith, long))) at e)
        (none_between s n (i + 1) (λ j a b. off j (omega arith) (after j (omega arith) (omega (arith, long)))) (omega (arith, long))
        (rw k behind))

    pub last_missed : ((k : ℕ) → k < length (take end s) → get_or (take end s) k 0 ≢ c) → length s ≡ found_last c s
    unfolding seek
    last_missed none =
        let k : 0 + end ≡ end = omega arith in
        last_none s (none_between s end 0 (λ j a b. off j (omega arith) (none j (omega (arith, long)))) (omega arith) (rw k behind))

  -- ── what it says of the text ───────────────────────────────────────────────────────────────

  -- the text is cut there, and c is not behind it
  pub record LastCut (s : List ℕ) (r : ℕ) : Type 0 where
    pub cut : s ≡ take r s ++ c ∷ drop (suc r) s
    pub behind : Lacks c (drop (suc r) s)

  pub last_cut : (s : List ℕ) → found_last c s < length s → LastCut s (found_last c s)
  unfolding found_last
  last_cut [] h = absurd (omega arith)
  last_cut (x ∷ s) h = go (ltb (index (is c) s) (length s)) refl (is c x) refl (last_cut s) h
    where
      go : (t : Bool) → ltb (index (is c) s) (length s) ≡ t → (u : Bool) → is c x ≡ u
          → (found_last c s < length s → LastCut s (found_last c s))
          → cond t (suc (found_last c s)) (cond u zero (suc (length s))) < suc (length s)
          → LastCut (x ∷ s) (cond t (suc (found_last c s)) (cond u zero (suc (length s))))
      go true e u k rest h =
          let l = rest (omega arith) in record { cut = ap (λ (l : List ℕ). x ∷ l) l.cut; behind = l.behind }
      go false e true k rest h =
          let none : index (is c) s ≡ length s = omega (arith, ltb-false (index (is c) s) (length s) e, index_le (is c) s) in
          record { cut = rw (eqb-true x c k); behind = lacks_all c s none }
      go false e false k rest h = absurd (omega arith)

  -- where it is the length there is none
  last_all : (s : List ℕ) → found_last c s ≡ length s → index (is c) s ≡ length s
  unfolding index found_last
  last_all [] e = refl
  last_all (x ∷ s) e = go (ltb (index (is c) s) (length s)) refl (is c x) (last_all s) e
    where
      go : (t : Bool) → ltb (index (is c) s) (length s) ≡ t → (u : Bool) → (found_last c s ≡ length s → index (is c) s ≡ length s)
          → cond t (suc (found_last c s)) (cond u zero (suc (length s))) ≡ suc (length s)
          → cond u zero (suc (index (is c) s)) ≡ suc (length s)
      go true k u rest e = absurd (omega (arith, ltb-true (index (is c) s) (length s) k, rest (omega arith)))
      go false k true rest e = absurd (omega arith)
      go false k false rest e = omega (arith, ltb-false (index (is c) s) (length s) k, index_le (is c) s)

  pub last_lacks : (s : List ℕ) → found_last c s ≡ length s → Lacks c s
  last_lacks s e = lacks_all c s (last_all s e)

-- ── in a window of 16 ─────────────────────────────────────────────────────────────────────────

-- what is below p has no p in it
no_more : (p x y : ℕ) → x + p * y < p → y ≡ 0
no_more p x zero h = refl
no_more p x (suc y) h = absurd (omega (arith, mul-suc p y))

-- a mask below 2^n has no digit from the n-th on
window_from : (b at n : ℕ) {m : ℕ} (s : List ℕ) → at + 16 ≤ length s → n ≤ 16 → m ≡ mask b (take 16 (drop at s)) → m < 2 ^ n
    → found b (at + n) s ≡ found b (at + 16) s
window_from b at n {m} s inside short read low =
    let k = 16 - n in
    let whole : n + k ≡ 16 = omega arith in
    let end : at + n + k ≡ at + 16 = omega arith in
    let parts = rw whole at (mask_join b n k at s (omega arith)) in
    let none = no_more (2 ^ n) (mask b (take n (drop at s))) (mask b (take k (drop (at + n) s))) (omega arith) in
    passed b (at + n) k s (omega arith) none ∙ ap (λ (i : ℕ). found b i s) end

few_digits : (n m : ℕ) → 2 ^ n ≤ 2 * m + 1 → m < 65536 → n ≤ 16
few_digits n m h few = go (le_or_lt n 16)
  where
    go : (n ≤ 16) ⊎ (16 < n) → n ≤ 16
    go (inl k) = k
    go (inr k) = absurd (omega (arith, pow_mono {i = 17} {j = n} k))

-- so behind its highest digit there is no b
pub window_last : (b at : ℕ) {m : ℕ} (s : List ℕ) → at + 16 ≤ length s → m ≡ mask b (take 16 (drop at s)) → m < 65536
    → (32 - count_leading_zeros 32 m ≤ 16) × (found b (at + (32 - count_leading_zeros 32 m)) s ≡ found b (at + 16) s)
window_last b at {m} s inside read few = go (leading_length 32 m (omega arith))
  where
    go : (n : ℕ) × (count_leading_zeros 32 m + n ≡ 32) × (m < 2 ^ n) × (2 ^ n ≤ 2 * m + 1)
        → (32 - count_leading_zeros 32 m ≤ 16) × (found b (at + (32 - count_leading_zeros 32 m)) s ≡ found b (at + 16) s)
    go (n, e, low, high) =
        let same : n ≡ 32 - count_leading_zeros 32 m = omega arith in
        let short = few_digits n m high few in
        rw (← same) (short, window_from b at n s inside short read low)
