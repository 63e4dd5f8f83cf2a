-- A score token: GFF3, Column 6, score (a floating point number), by the grammar of RULES 4.2: optional `-`, digits, optional `.` and
-- digits, optional `e` or `E` with optional sign and digits; each run of digits has at least one. Assumes nothing: these are definitions.
use Rattle.std.specs.Prelude.{ℕ, Bool, true, cond, not, ◌&&◌, ◌||◌, List, [], ◌∷◌, eqb, ltb, drop}
use Rattle.base_lists.specs.Bytes.{sans, plus, minus, dot}
use Rattle.base_scan.specs.Find.{index, is}
use Rattle.read_numbers.specs.Number.{is_digit, some_digits}

abbrev pub no_digit : ℕ → Bool
no_digit x = not (is_digit x)

-- how many digits a text begins with, and what stands behind them
abbrev pub digit_run : List ℕ → ℕ
digit_run s = index no_digit s

abbrev pub behind_run : List ℕ → List ℕ
behind_run s = drop (digit_run s) s

-- `+` or `-`
abbrev pub is_sign : ℕ → Bool
is_sign x = is plus x || is minus x

-- nothing, or `e` or `E` with optional sign and digits
unfoldable pub is_exponent : List ℕ → Bool
is_exponent [] = true
is_exponent (x ∷ s) = (eqb x 101 || eqb x 69) && some_digits (sans is_sign s)

-- optional `.` and digits, and the exponent
unfoldable pub is_fraction : List ℕ → Bool
is_fraction [] = true
is_fraction (x ∷ s) = cond (eqb x dot) (ltb 0 (digit_run s) && is_exponent (behind_run s)) (is_exponent (x ∷ s))

-- optional `-`, digits, and the fraction
unfoldable pub is_score : List ℕ → Bool
is_score s = ltb 0 (digit_run (sans (is minus) s)) && is_fraction (behind_run (sans (is minus) s))
