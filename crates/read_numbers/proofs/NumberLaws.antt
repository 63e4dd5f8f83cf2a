-- Laws of numbers as they are read. Assumes nothing.
use native.Mathlib.Omega.{arith}
use native.Mathlib.Numerals.{add-one}
use mathlib.Core.Path.{◌≡◌, refl}
use mathlib.Core.Logic.{◌⊎◌, inl, inr}
use mathlib.Core.Bool.{Bool, true, false, cond, ◌&&◌, and-false}
use mathlib.Core.List.{List, [], ◌∷◌, ◌++◌}
use Prim.Native.Nat.{ℕ, suc, ◌+◌, ◌-◌, ◌*◌, ◌≤◌, ◌<◌}
use lib.ListN.{length, drop, get_or, drop_of_length-le}
use lib.Seq.{drop-cons}
use borrow.Author.Tests.{le-leb, lt-leb}
use Rattle.base_lists.specs.Bytes.{Every, between}
use Rattle.base_lists.proofs.BoolLaws.{and_right}
use Rattle.base_lists.proofs.OrderLaws.{low_end, high_end}
use Rattle.std.specs.Prelude.{Option, Some, None}
use Rattle.read_numbers.specs.Number.{is_digit, all_digits, some_digits, digits_value_after, digits_value, numeral}

-- a test of two bounds, from the bounds
within : {low high x : ℕ} → low ≤ x → x ≤ high → between low high x ≡ true
within {low} {high} {x} h g = rw (le-leb low x h, le-leb x high g)

-- one more digit makes ten times the value and the digit
pub value_snoc : (s : List ℕ) (v x : ℕ) → digits_value_after v (s ++ (x ∷ [])) ≡ digits_value_after v s * 10 + (x - 48)
unfolding digits_value_after
value_snoc [] v x = refl
value_snoc (y ∷ s) v x = value_snoc s (v * 10 + (y - 48)) x

-- digits behind a value make it no smaller
value_grows : (s : List ℕ) (v : ℕ) → v ≤ digits_value_after v s
unfolding digits_value_after
value_grows [] v = omega arith
value_grows (x ∷ s) v = omega (arith, value_grows s (v * 10 + (x - 48)))

-- the value that is read lies between the bounds
pub numeral_bounds : {low high v : ℕ} (s : List ℕ) → numeral low high s ≡ Some v → (low ≤ v) × (v ≤ high)
unfolding numeral
numeral_bounds {low} {high} {v} s e = go (some_digits s && between low high (digits_value s)) refl e
  where
    go : (t : Bool) → (some_digits s && between low high (digits_value s)) ≡ t → cond t (Some (digits_value s)) None ≡ Some v
        → (low ≤ v) × (v ≤ high)
    go true p q =
        let same : digits_value s ≡ v = cc in
        let both = and_right (some_digits s) (between low high (digits_value s)) p in (
          omega (arith, low_end low high (digits_value s) both),
          omega (arith, high_end low high (digits_value s) both),
        )
    go false p q = let z : ◌≡◌ {A = ℕ} 0 1 = cc in absurd (omega arith)

-- the test of digits, from each
digits_each : (s : List ℕ) → Every (λ x. is_digit x ≡ true) s → all_digits s ≡ true
unfolding all_digits
digits_each [] h = refl
digits_each (x ∷ s) h = rw (h.0, digits_each s h.1)

-- one or more digits whose value lies between the bounds are read
pub numeral_value : {low high n : ℕ} (s : List ℕ) → 0 < length s → Every (λ x. is_digit x ≡ true) s → digits_value s ≡ n → low ≤ n
    → n ≤ high → numeral low high s ≡ Some n
unfolding numeral some_digits
numeral_value [] some h e p q = absurd (omega arith)
numeral_value (x ∷ s) some h e p q = rw (digits_each (x ∷ s) h, e, within p q)

-- ── digit by digit ────────────────────────────────────────────────────────────────────────────

module _ (low high : ℕ) where
  -- what digits come to behind those that made v
  pub onwards : ℕ → List ℕ → Option ℕ
  onwards v s = cond (all_digits s && between low high (digits_value_after v s)) (Some (digits_value_after v s)) None

  module _ (s : List ℕ) (i : ℕ) where
    -- no digit at all
    pub numeral_none : length s ≤ i → numeral low high (drop i s) ≡ None
    unfolding numeral some_digits
    numeral_none h = rw (drop_of_length-le s h)

    -- before the first
    pub numeral_starts : i < length s → numeral low high (drop i s) ≡ onwards 0 (drop i s)
    unfolding numeral some_digits onwards
    numeral_starts h = rw (drop-cons s i 0 h)

    module _ (v : ℕ) where
      module _ (h : length s ≤ i) where
        -- behind the last
        pub onwards_value : low ≤ v → v ≤ high → onwards v (drop i s) ≡ Some v
        unfolding all_digits digits_value_after onwards
        onwards_value p q = rw (drop_of_length-le s h, within p q)

        -- behind the last, where the value is too small
        pub onwards_under : v < low → onwards v (drop i s) ≡ None
        unfolding all_digits digits_value_after onwards
        onwards_under p = rw (drop_of_length-le s h, lt-leb low v p)

      module _ (h : i < length s) where
        -- a digit
        pub onwards_next : 48 ≤ get_or s i 0 → get_or s i 0 ≤ 57 → onwards v (drop i s) ≡ onwards (v * 10 + (get_or s i 0 - 48)) (drop (i + 1) s)
        unfolding all_digits digits_value_after onwards
        onwards_next p q = rw (add-one, drop-cons s i 0 h, le-leb 48 (get_or s i 0) p, le-leb (get_or s i 0) 57 q)

        -- another byte
        pub onwards_other : (get_or s i 0 < 48) ⊎ (57 < get_or s i 0) → onwards v (drop i s) ≡ None
        unfolding all_digits onwards
        onwards_other (inl p) = rw (drop-cons s i 0 h, lt-leb 48 (get_or s i 0) p)
        onwards_other (inr p) = rw (drop-cons s i 0 h, lt-leb (get_or s i 0) 57 p, and-false)

        -- a digit that makes the value too large
        pub onwards_over : high < v * 10 + (get_or s i 0 - 48) → onwards v (drop i s) ≡ None
        unfolding digits_value_after onwards
        onwards_over p =
            let w = v * 10 + (get_or s i 0 - 48) in
            let k : high < digits_value_after w (drop (suc i) s) = omega (arith, value_grows (drop (suc i) s) w) in
            rw (drop-cons s i 0 h, lt-leb (digits_value_after w (drop (suc i) s)) high k, and-false, and-false)
