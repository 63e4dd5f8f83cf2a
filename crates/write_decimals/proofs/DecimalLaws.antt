-- Laws of numbers as they are written: a number is read back from its digits. Assumes nothing.
use native.Mathlib.Omega.{arith}
use native.Mathlib.Nat.{pow-succ'}
use mathlib.Core.Path.{◌≡◌, refl, ap, ◌∙◌}
use mathlib.Core.Logic.{◌⊎◌, inl, inr, ◌≢◌}
use mathlib.Core.Bool.{Bool, true, false}
use mathlib.Core.List.{List, [], ◌∷◌, ◌++◌}
use Prim.Native.Nat.{ℕ, zero, suc, ◌+◌, ◌*◌, ◌/◌, ◌%◌, ◌^◌, ◌≤◌, ◌<◌}
use lib.Dec.{leb}
use lib.ListN.{length, get_or, length-append, get_or-append}
use borrow.Author.Tests.{lt-ltb, le-ltb, le-leb, leb-true, ne_eqb}
use Rattle.base_lists.specs.Bytes.{Every, Lacks, sans, plus}
use Rattle.base_lists.proofs.BoolLaws.{and_left, and_right}
use Rattle.base_lists.proofs.EveryLaws.{every_append, every_each, every_lacks}
use Rattle.base_lists.proofs.OrderLaws.{le_or_lt}
use Rattle.base_lists.proofs.SansLaws.{sans_none}
use Rattle.base_scan.specs.Find.{is}
use Rattle.std.specs.Prelude.{Some}
use Rattle.write_decimals.specs.Decimal.{digits, decimal}
use Rattle.read_numbers.specs.Number.{is_digit, digits_value_after, digits_value, numeral, most64, most32, position, region_position}
use Rattle.read_numbers.specs.Number.{version_part}
use Rattle.read_numbers.proofs.NumberLaws.{value_snoc, numeral_value}

-- any bound on the number of digits gives the same digits
digits_any : (k j n : ℕ) → n ≤ k → n ≤ j → digits k n ≡ digits j n
unfolding digits
digits_any zero zero n h g = refl
digits_any zero (suc j) n h g = rw (lt-ltb n 10 (omega arith))
digits_any (suc k) zero n h g = rw (lt-ltb n 10 (omega arith))
digits_any (suc k) (suc j) n h g = rw (digits_any k j (n / 10) (omega arith) (omega arith))

-- one digit
pub decimal_one : (n : ℕ) → n < 10 → decimal n ≡ (48 + n) ∷ []
unfolding digits
decimal_one zero h = refl
decimal_one (suc k) h = rw (lt-ltb (suc k) 10 h)

-- more digits
pub decimal_more : (n : ℕ) → 10 ≤ n → decimal n ≡ decimal (n / 10) ++ ((48 + n % 10) ∷ [])
unfolding digits
decimal_more zero h = absurd (omega arith)
decimal_more (suc k) h = rw (le-ltb (suc k) 10 h, digits_any k (suc k / 10) (suc k / 10) (omega arith) (omega arith))

-- what holds of one digit, and of a digit more, holds of every decimal
pub decimal_rec : (P : ℕ → List ℕ → Type 0) → ((n : ℕ) → n < 10 → P n ((48 + n) ∷ []))
    → ((n : ℕ) (s : List ℕ) → 10 ≤ n → P (n / 10) s → P n (s ++ ((48 + n % 10) ∷ []))) → (n : ℕ) → P n (decimal n)
decimal_rec P one more n = below n n (omega arith)
  where
    either : (m : ℕ) → (10 ≤ m → P (m / 10) (decimal (m / 10))) → (10 ≤ m) ⊎ (m < 10) → P m (decimal m)
    either m rest (inl h) = rw (decimal_more m h) (more m (decimal (m / 10)) h (rest h))
    either m rest (inr h) = rw (decimal_one m h) (one m h)

    below : (k m : ℕ) → m ≤ k → P m (decimal m)
    below zero m h = rw (decimal_one m (omega arith)) (one m (omega arith))
    below (suc k) m h = either m (λ g. below k (m / 10) (omega arith)) (le_or_lt 10 m)

-- ── what the digits are ───────────────────────────────────────────────────────────────────────

-- their value
pub value_decimal : (n : ℕ) → digits_value (decimal n) ≡ n
unfolding digits_value_after
value_decimal =
    decimal_rec (λ n s. digits_value s ≡ n) (λ n h. omega arith) (λ n s h e. value_snoc s 0 (48 + n % 10) ∙ omega arith)

-- each is one
pub decimal_digits : (n : ℕ) → Every (λ x. is_digit x ≡ true) (decimal n)
decimal_digits =
    decimal_rec (λ n s. Every (λ x. is_digit x ≡ true) s)
    (λ n h. (digit n h, tt))
    (λ n s h p. every_append (λ x. is_digit x ≡ true) s ((48 + n % 10) ∷ []) p (digit (n % 10) (omega arith), tt))
  where
    digit : (d : ℕ) → d < 10 → is_digit (48 + d) ≡ true
    digit d h = rw (le-leb 48 (48 + d) (omega arith), le-leb (48 + d) 57 (omega arith))

-- so what is no digit is not among them
pub decimal_lacks : (c n : ℕ) → is_digit c ≡ false → Lacks c (decimal n)
decimal_lacks c n e = every_lacks is_digit c e (decimal n) (decimal_digits n)

-- and a test that no digit passes fails on each
pub decimal_fails : (test : ℕ → Bool) → ((x : ℕ) → 48 ≤ x → x ≤ 57 → test x ≡ false) → (n : ℕ) → Every (λ x. test x ≡ false) (decimal n)
decimal_fails test fails n = every_each (λ x. is_digit x ≡ true) (λ x. test x ≡ false) each (decimal n) (decimal_digits n)
  where
    each : (x : ℕ) → is_digit x ≡ true → test x ≡ false
    each x h = fails x (leb-true 48 x (and_left (leb 48 x) (leb x 57) h)) (leb-true x 57 (and_right (leb 48 x) (leb x 57) h))

-- both of the next two at once, since the second needs the first
starts : (n : ℕ) → (0 < length (decimal n)) × (0 < n → get_or (decimal n) 0 0 ≢ 48)
starts =
    decimal_rec (λ n s. (0 < length s) × (0 < n → get_or s 0 0 ≢ 48))
    (λ n h. (omega arith, λ p e. omega arith))
    (λ n s h p. (simp length-append (omega arith), λ q. rw (get_or-append s ((48 + n % 10) ∷ []) 0 0 p.0) (p.1 (omega arith))))

-- there is one
pub decimal_some : (n : ℕ) → 0 < length (decimal n)
decimal_some n = (starts n).0

-- the first is not 0
pub decimal_lead : (n : ℕ) → 0 < n → get_or (decimal n) 0 0 ≢ 48
decimal_lead n = (starts n).1

-- a number of 64 bits has at most twenty
pub length_decimal : (n : ℕ) → n < 2 ^ 64 → length (decimal n) ≤ 20
length_decimal n h = decimal_rec (λ m s. (j : ℕ) → m < 10 ^ suc j → length s ≤ suc j) (λ m p j q. omega arith) more n 19 (omega arith)
  where
    more : (m : ℕ) (s : List ℕ) → 10 ≤ m → ((j : ℕ) → m / 10 < 10 ^ suc j → length s ≤ suc j) → (j : ℕ) → m < 10 ^ suc j
        → length (s ++ ((48 + m % 10) ∷ [])) ≤ suc j
    more m s g rest zero q = absurd (omega arith)
    more m s g rest (suc j) q = simp length-append (omega (arith, rest j (omega (arith, pow-succ' 10 (suc j)))))

-- one more than a tenth of the number has
pub length_more : (n : ℕ) → 10 ≤ n → length (decimal n) ≡ length (decimal (n / 10)) + 1
length_more n h = ap length (decimal_more n h) ∙ simp length-append

pow_pos10 : (k : ℕ) → 0 < 10 ^ k
pow_pos10 zero = omega arith
pow_pos10 (suc k) = rw (pow-succ' 10 k) (omega (arith, pow_pos10 k))

-- from a power of ten to the next it has one digit more than the power has zeros
pub length_power : (k n : ℕ) → 10 ^ k ≤ n → n < 10 * 10 ^ k → length (decimal n) ≡ k + 1
length_power zero n low high = ap length (decimal_one n (omega arith))
length_power (suc k) n low high =
    let p : 10 ^ suc k ≡ 10 * 10 ^ k = pow-succ' 10 k in
    let some : 0 < 10 ^ k = omega (arith, pow_pos10 k) in
    length_more n (omega (arith, p)) ∙ omega (arith, length_power k (n / 10) (omega (arith, p)) (omega (arith, p)))

-- ── read back ─────────────────────────────────────────────────────────────────────────────────

module _ (low high n : ℕ) (h : low ≤ n) (g : n ≤ high) where
  -- whatever the bounds
  pub numeral_decimal : numeral low high (decimal n) ≡ Some n
  numeral_decimal = numeral_value (decimal n) (decimal_some n) (decimal_digits n) (value_decimal n) h g

  -- and where a `+` may stand before the digits
  pub plus_decimal : numeral low high (sans (is plus) (decimal n)) ≡ Some n
  plus_decimal =
      rw (sans_none (is plus) (decimal n) (decimal_fails (is plus) (λ x a b. ne_eqb x plus (omega arith)) n)) numeral_decimal

-- so in each of the three forms
pub position_decimal : (n : ℕ) → 1 ≤ n → n ≤ most64 → position (decimal n) ≡ Some n
position_decimal n = numeral_decimal 1 most64 n

pub region_position_decimal : (n : ℕ) → 1 ≤ n → n ≤ most64 → region_position (decimal n) ≡ Some n
region_position_decimal n = plus_decimal 1 most64 n

pub version_part_decimal : (n : ℕ) → n ≤ most32 → version_part (decimal n) ≡ Some n
version_part_decimal n h = plus_decimal 0 most32 n (omega arith) h
