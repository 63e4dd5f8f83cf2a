-- A text cut at each separator, and pieces joined by it; with no separator it is one piece. So a value is cut at each `,` (RULES 5.4;
-- GFF3, Column 9, attributes). Assumes nothing: these are definitions.
use Rattle.std.specs.Prelude.{ℕ, cond, List, [], ◌∷◌, ◌++◌, eqb}

-- the pieces between the separators c, where `piece` was read since the last one
unfoldable pub pieces_after : ℕ → List ℕ → List ℕ → List (List ℕ)
pieces_after c piece [] = piece ∷ []
pieces_after c piece (x ∷ s) = cond (eqb x c) (piece ∷ pieces_after c [] s) (pieces_after c (piece ++ (x ∷ [])) s)

abbrev pub pieces : ℕ → List ℕ → List (List ℕ)
pieces c s = pieces_after c [] s

-- each piece with the separator before it
unfoldable pub prefixed : ℕ → List (List ℕ) → List ℕ
prefixed c [] = []
prefixed c (p ∷ ps) = c ∷ (p ++ prefixed c ps)

-- pieces with the separator between them
unfoldable pub joined : ℕ → List (List ℕ) → List ℕ
joined c [] = []
joined c (p ∷ ps) = p ++ prefixed c ps
