-- Numbers as they are written, RULES 8.1: decimal without leading zeros. Assumes nothing: these are definitions.
use Rattle.std.specs.Prelude.{cond, List, [], ◌∷◌, ◌++◌, ℕ, zero, suc, ◌+◌, ◌/◌, ◌%◌, ltb}

-- n in digits without leading zeros; k is any bound of how many follow the first
-- (a `let` is computed only where it is read: without it the whole of the bound would be run through)
unfoldable pub digits : ℕ → ℕ → List ℕ
digits zero n = (48 + n) ∷ []
digits (suc k) n = let more = digits k (n / 10) ++ ((48 + n % 10) ∷ []) in cond (ltb n 10) ((48 + n) ∷ []) more

abbrev pub decimal : ℕ → List ℕ
decimal n = digits n n
