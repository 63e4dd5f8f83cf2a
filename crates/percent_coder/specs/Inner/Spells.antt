-- What it is to spell a text in bytes and escapes. Assumes nothing: these are definitions.
use Rattle.std.specs.Prelude.{ℕ, ◌≡◌, Bool, false, List, [], ◌∷◌, ◌++◌}
use Rattle.percent_coding.specs.Percent.{escape}

-- t spells s: each byte as itself, where it need not be escaped, or as its escape
pub data Spells (must : ℕ → Bool) : List ℕ → List ℕ → Type 0 where
  ends : Spells must [] []
  stands : (x : ℕ) {s t : List ℕ} → must x ≡ false → Spells must s t → Spells must (x ∷ s) (x ∷ t)
  escapes : (x : ℕ) {s t : List ℕ} → Spells must s t → Spells must (x ∷ s) (escape x ++ t)
