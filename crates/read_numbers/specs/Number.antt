-- Numbers as they are read: RULES 4.1, 7.2, 7.3. Assumes nothing: these are definitions.
use Rattle.std.specs.Prelude.{ℕ, ◌+◌, ◌-◌, ◌*◌, Bool, true, false, cond, ◌&&◌, List, [], ◌∷◌, Option, Some, None}
use Rattle.base_lists.specs.Bytes.{between, sans, plus}
use Rattle.base_scan.specs.Find.{is}

-- an ASCII digit
abbrev pub is_digit : ℕ → Bool
is_digit x = between 48 57 x

unfoldable pub all_digits : List ℕ → Bool
all_digits [] = true
all_digits (x ∷ s) = is_digit x && all_digits s

-- one or more digits
unfoldable pub some_digits : List ℕ → Bool
some_digits [] = false
some_digits (x ∷ s) = all_digits (x ∷ s)

-- the number that digits make, v being made of those before them
unfoldable pub digits_value_after : ℕ → List ℕ → ℕ
digits_value_after v [] = v
digits_value_after v (x ∷ s) = digits_value_after (v * 10 + (x - 48)) s

abbrev pub digits_value : List ℕ → ℕ
digits_value s = digits_value_after 0 s

-- one or more digits, leading zeros allowed, whose value lies from low to high
unfoldable pub numeral : ℕ → ℕ → List ℕ → Option ℕ
numeral low high s = cond (some_digits s && between low high (digits_value s)) (Some (digits_value s)) None

-- ── the three forms ──

abbrev pub most64 : ℕ
most64 = 18446744073709551615

abbrev pub most32 : ℕ
most32 = 4294967295

-- GFF3, Columns 4 and 5, start and end: positive, counted from 1; a sign is refused
abbrev pub position : List ℕ → Option ℕ
position s = numeral 1 most64 s

-- the positions of a region (GFF3, Directives), as the standard Rust reader takes them: `+` is allowed, zero refused
abbrev pub region_position : List ℕ → Option ℕ
region_position s = numeral 1 most64 (sans (is plus) s)

-- a part of a version (GFF3, Directives): `+` is allowed, 32 bits
abbrev pub version_part : List ℕ → Option ℕ
version_part s = numeral 0 most32 (sans (is plus) s)

-- what comes of a number; refused where it is not valid
abbrev pub number_then : {A : Type 0} → A → Option ℕ → (ℕ → A) → A
number_then refused (Some n) f = f n
number_then refused None f = refused
