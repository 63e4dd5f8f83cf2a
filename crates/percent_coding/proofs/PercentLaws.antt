-- Laws of decoding, of one escape, and of the length of an encoded text; how many bytes are escaped. Assumes nothing.
use Prim.Native.Nat.{ℕ, suc, ◌+◌, ◌*◌, ◌/◌, ◌%◌, ◌<◌, ◌≤◌}
use native.Mathlib.Omega.{arith}
use mathlib.Core.Path.{◌≡◌, refl, sym, ap, ◌∙◌}
use mathlib.Core.Logic.{◌≢◌}
use mathlib.Core.Bool.{Bool, true, false, cond, ◌&&◌, true≢false}
use mathlib.Core.List.{List, [], ◌∷◌, ◌++◌, append-nil}
use lib.Dec.{eqb, ltb}
use lib.ListN.{length, length-append}
use borrow.Author.Tests.{ne_eqb, eqb-true, ltb-true}
use Rattle.base_lists.specs.Bytes.{Bytes, Lacks, percent}
use Rattle.base_lists.proofs.TableLaws.{below_holds}
use Rattle.percent_coding.specs.Percent.{is_hex, hex_value, hex_digit, decoded, escape, piece, encoded, count_escaped}

-- ── hex digits ────────────────────────────────────────────────────────────────────────────────

-- of the sixteen digits each is one, has its value, and is a byte
is_hex_digit : (n : ℕ) → n < 16 → is_hex (hex_digit n) ≡ true
unfolding is_hex hex_digit
is_hex_digit n h = below_holds 16 (λ k. is_hex (hex_digit k)) refl n h

value_digit : (n : ℕ) → n < 16 → hex_value (hex_digit n) ≡ n
unfolding hex_value hex_digit
value_digit n h = eqb-true (hex_value (hex_digit n)) n (below_holds 16 (λ k. eqb (hex_value (hex_digit k)) k) refl n h)

byte_digit : (n : ℕ) → n < 16 → hex_digit n < 256
unfolding hex_digit
byte_digit n h = ltb-true (hex_digit n) 256 (below_holds 16 (λ k. ltb (hex_digit k) 256) refl n h)

-- ── decoding ──────────────────────────────────────────────────────────────────────────────────

-- a byte that is no percent sign stands for itself
pub decoded_plain : (x : ℕ) (s : List ℕ) → x ≢ 37 → decoded (x ∷ s) ≡ x ∷ decoded s
unfolding decoded
decoded_plain x [] h = refl
decoded_plain x (y ∷ []) h = refl
decoded_plain x (y ∷ z ∷ s) h = rw (ne_eqb x 37 h)

-- and so do the bytes before the first percent sign
pub decoded_begin : (t s : List ℕ) → Lacks 37 t → decoded (t ++ s) ≡ t ++ decoded s
decoded_begin [] s h = refl
decoded_begin (x ∷ t) s h = rw (decoded_plain x (t ++ s) h.0, decoded_begin t s h.1)

-- a decoded text is no longer than its text: a law for one byte, and for three
-- so a text without a percent sign stays as it is
pub decoded_whole : (s : List ℕ) → Lacks 37 s → decoded s ≡ s
unfolding decoded
decoded_whole s h = ap decoded (sym (append-nil s)) ∙ decoded_begin s [] h ∙ append-nil s

pub length_decoded : (s : List ℕ) → length (decoded s) ≤ length s
unfolding decoded
length_decoded [] = omega arith
length_decoded (x ∷ []) = omega arith
length_decoded (x ∷ y ∷ []) = omega arith
length_decoded (x ∷ y ∷ z ∷ s) = go (eqb x 37 && is_hex y && is_hex z) (length_decoded s) (length_decoded (y ∷ z ∷ s))
  where
    go : (t : Bool) → length (decoded s) ≤ length s → length (decoded (y ∷ z ∷ s)) ≤ suc (suc (length s))
        → length (cond t ((hex_value y * 16 + hex_value z) ∷ decoded s) (x ∷ decoded (y ∷ z ∷ s))) ≤ suc (suc (suc (length s)))
    go true p q = omega arith
    go false p q = omega arith

-- and where it is no shorter it is the text itself
pub decoded_same : (s : List ℕ) → length (decoded s) ≡ length s → decoded s ≡ s
unfolding decoded
decoded_same [] e = refl
decoded_same (x ∷ []) e = refl
decoded_same (x ∷ y ∷ []) e = refl
decoded_same (x ∷ y ∷ z ∷ s) e = go (eqb x 37 && is_hex y && is_hex z) (length_decoded s) (λ h. decoded_same (y ∷ z ∷ s) h) e
  where
    go : (t : Bool) → length (decoded s) ≤ length s
        → (length (decoded (y ∷ z ∷ s)) ≡ suc (suc (length s)) → decoded (y ∷ z ∷ s) ≡ y ∷ z ∷ s)
        → length (cond t ((hex_value y * 16 + hex_value z) ∷ decoded s) (x ∷ decoded (y ∷ z ∷ s))) ≡ suc (suc (suc (length s)))
        → cond t ((hex_value y * 16 + hex_value z) ∷ decoded s) (x ∷ decoded (y ∷ z ∷ s)) ≡ x ∷ y ∷ z ∷ s
    go true p q e = absurd (omega arith)
    go false p q e = ap (λ (r : List ℕ). x ∷ r) (q (omega arith))

-- ── an escape ─────────────────────────────────────────────────────────────────────────────────

-- it is decoded to its byte
pub decoded_escape : (x : ℕ) (s : List ℕ) → x < 256 → decoded (escape x ++ s) ≡ x ∷ decoded s
unfolding decoded escape
decoded_escape x s h =
    let hi : x / 16 < 16 = omega arith in
    let lo : x % 16 < 16 = omega arith in
    rw (is_hex_digit (x / 16) hi, is_hex_digit (x % 16) lo, value_digit (x / 16) hi, value_digit (x % 16) lo)
    (ap (λ (y : ℕ). y ∷ decoded s) (omega arith))

-- it holds the percent sign and hex digits alone
pub lacks_escape : (c : ℕ) → c ≢ percent → is_hex c ≡ false → (x : ℕ) → x < 256 → Lacks c (escape x)
unfolding escape
lacks_escape c other digit x h =
    let no_digit : (n : ℕ) → n < 16 → hex_digit n ≢ c = λ n l p. true≢false (sym (is_hex_digit n l) ∙ ap is_hex p ∙ digit) in
    ((λ p. other (sym p)), (no_digit (x / 16) (omega arith), (no_digit (x % 16) (omega arith), tt)))

-- and bytes alone
pub bytes_escape : (x : ℕ) → x < 256 → Bytes (escape x)
unfolding escape
bytes_escape x h = (omega arith, (byte_digit (x / 16) (omega arith), (byte_digit (x % 16) (omega arith), tt)))

-- ── length ────────────────────────────────────────────────────────────────────────────────────

length_piece : (x : ℕ) (t : Bool) → length (cond t (escape x) (x ∷ [])) ≡ 1 + 2 * cond t 1 0
unfolding escape
length_piece x true = refl
length_piece x false = refl

pub length_encoded : (set : ℕ → Bool) (s : List ℕ) → length (encoded set s) ≡ length s + 2 * count_escaped set s
unfolding encoded piece count_escaped
length_encoded set [] = refl
length_encoded set (x ∷ s) = simp length-append (omega (arith, length_piece x (set x), length_encoded set s))

-- ── how many bytes are escaped ────────────────────────────────────────────────────────────────

module _ (set : ℕ → Bool) where
  -- of two texts, one behind the other
  pub count_append : (a b : List ℕ) → count_escaped set (a ++ b) ≡ count_escaped set a + count_escaped set b
  unfolding count_escaped
  count_append [] b = omega arith
  count_append (x ∷ a) b = omega (arith, count_append a b)

  -- at most all of them
  count_most : (s : List ℕ) → count_escaped set s ≤ length s
  unfolding count_escaped
  count_most [] = omega arith
  count_most (x ∷ s) = go (set x) (count_most s)
    where
      go : (t : Bool) → count_escaped set s ≤ length s → cond t 1 0 + count_escaped set s ≤ suc (length s)
      go true h = omega arith
      go false h = omega arith

  -- so an encoded text has at most three bytes for one
  pub length_encoded_most : (s : List ℕ) → length (encoded set s) ≤ 3 * length s
  length_encoded_most s = omega (arith, length_encoded set s, count_most s)

  -- a text of which nothing is escaped stays as it is
  pub encoded_none : (s : List ℕ) → count_escaped set s ≡ 0 → encoded set s ≡ s
  unfolding encoded piece count_escaped
  encoded_none [] e = refl
  encoded_none (x ∷ s) e = go (set x) (encoded_none s) e
    where
      go : (t : Bool) → (count_escaped set s ≡ 0 → encoded set s ≡ s) → cond t 1 0 + count_escaped set s ≡ 0
          → cond t (escape x) (x ∷ []) ++ encoded set s ≡ x ∷ s
      go true rest e = absurd (omega arith)
      go false rest e = ap (λ (l : List ℕ). x ∷ l) (rest (omega arith))

  -- a set that holds another escapes no fewer
  pub count_within : (less : ℕ → Bool) → ((x : ℕ) → less x ≡ true → set x ≡ true) → (s : List ℕ)
      → count_escaped less s ≤ count_escaped set s
  unfolding count_escaped
  count_within less within [] = omega arith
  count_within less within (x ∷ s) = go (less x) (set x) (within x) (count_within less within s)
    where
      go : (t u : Bool) → (t ≡ true → u ≡ true) → count_escaped less s ≤ count_escaped set s
          → cond t 1 0 + count_escaped less s ≤ cond u 1 0 + count_escaped set s
      go true true k h = omega arith
      go true false k h = absurd (true≢false (sym (k refl)))
      go false true k h = omega arith
      go false false k h = omega arith
