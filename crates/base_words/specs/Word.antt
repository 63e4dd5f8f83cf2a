-- White space and words, RULES 2.4: ASCII white space is space, tab, LF, FF and CR, and a word is what stands between white space.
-- Assumes nothing: these are definitions.
use Rattle.std.specs.Prelude.{ℕ, Bool, not, List, [], ◌∷◌}
use Rattle.base_lists.specs.Bytes.{among, tab, lf, cr, sp}
use Rattle.base_scan.specs.declared.place.Place.{Place}
use Rattle.base_scan.specs.Find.{seek}

unfoldable pub is_space : ℕ → Bool
is_space x = among (sp ∷ tab ∷ lf ∷ 12 ∷ cr ∷ []) x

abbrev pub is_ink : ℕ → Bool
is_ink x = not (is_space x)

-- the first white space from a cursor on, and the first byte that is none; else the length
abbrev pub space : ℕ → List ℕ → ℕ
space at s = seek is_space at s

abbrev pub ink : ℕ → List ℕ → ℕ
ink at s = seek is_ink at s

-- the next word from a cursor on: from the first byte that is no white space to the next that is, or to the end. No word is left where
-- it starts at the end
abbrev pub word : List ℕ → ℕ → Place
word s at = record { start = ink at s; end = space (ink at s) s }
