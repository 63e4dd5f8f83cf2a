-- Percent coding: RFC 3986, section 2.1 (`pct-encoded = "%" HEXDIG HEXDIG`), capital digits by section 6.2.2.1; GFF3, Description of
-- the Format; RULES 6.1, 6.2. Assumes nothing: these are definitions.
use Rattle.std.specs.Prelude.{ℕ, ◌+◌, ◌*◌, ◌-◌, ◌/◌, ◌%◌, Bool, cond, ◌&&◌, ◌||◌, List, [], ◌∷◌, ◌++◌, eqb, leb}
use Rattle.base_lists.specs.Bytes.{between, percent}

-- ── hex digits ──

-- RFC 3986, section 2.1, HEXDIG: 0 to 9, A to F, and by section 6.2.2.1 a to f
unfoldable pub is_hex : ℕ → Bool
is_hex x = between 48 57 x || between 65 70 x || between 97 102 x

-- the value of a hex digit
unfoldable pub hex_value : ℕ → ℕ
hex_value x = cond (leb x 57) (x - 48) (cond (leb x 70) (x - 55) (x - 87))

-- the capital hex digit of a value below 16
unfoldable pub hex_digit : ℕ → ℕ
hex_digit n = cond (leb n 9) (48 + n) (55 + n)

-- ── decoding ──

-- RFC 3986, section 2.1: `%` and two hex digits of either case give a byte. RULES 6.1: any other `%` stays, and reading goes on at the next
-- byte
unfoldable pub decoded : List ℕ → List ℕ
decoded [] = []
decoded (x ∷ []) = x ∷ []
decoded (x ∷ y ∷ []) = x ∷ y ∷ []
decoded (x ∷ y ∷ z ∷ s) =
    cond (eqb x percent && is_hex y && is_hex z) ((hex_value y * 16 + hex_value z) ∷ decoded s) (x ∷ decoded (y ∷ z ∷ s))

-- ── encoding ──

-- the escape of a byte, RFC 3986, sections 2.1 and 6.2.2.1: `%` and two capital hex digits
unfoldable pub escape : ℕ → List ℕ
escape x = percent ∷ hex_digit (x / 16) ∷ hex_digit (x % 16) ∷ []

-- a byte as it is written: escaped where the set says so
unfoldable pub piece : (ℕ → Bool) → ℕ → List ℕ
piece set x = cond (set x) (escape x) (x ∷ [])

unfoldable pub encoded : (ℕ → Bool) → List ℕ → List ℕ
encoded set [] = []
encoded set (x ∷ s) = piece set x ++ encoded set s

-- how many bytes of a text the set escapes
unfoldable pub count_escaped : (ℕ → Bool) → List ℕ → ℕ
count_escaped set [] = 0
count_escaped set (x ∷ s) = cond (set x) 1 0 + count_escaped set s
