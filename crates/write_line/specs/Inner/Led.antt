-- Texts with a byte before each. Assumes nothing: these are definitions.
use Rattle.std.specs.Prelude.{ℕ, List, [], ◌∷◌, ◌++◌}

-- the byte b before the first, and c before each other
unfoldable pub led : ℕ → ℕ → List (List ℕ) → List ℕ
led b c [] = []
led b c (p ∷ ps) = b ∷ (p ++ led c c ps)
