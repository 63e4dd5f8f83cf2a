-- Whether a text is another, and whether it is the one byte `.`. Assumes nothing: these are definitions.
use Rattle.std.specs.Prelude.{ℕ, Bool, true, false, ◌&&◌, List, [], ◌∷◌, eqb}
use Rattle.base_lists.specs.Bytes.{dot}

-- whether two texts are the same
unfoldable pub same : List ℕ → List ℕ → Bool
same [] [] = true
same [] (y ∷ t) = false
same (x ∷ s) [] = false
same (x ∷ s) (y ∷ t) = eqb x y && same s t

-- the exact byte `.`
unfoldable pub is_dot : List ℕ → Bool
is_dot [] = false
is_dot (x ∷ []) = eqb x dot
is_dot (x ∷ y ∷ s) = false
