-- The blank lines that stand before a line (RULES 1.4; GFF3, Description of the Format): each is LF, or CR and LF. Assumes nothing: these
-- are definitions.
use Rattle.std.specs.Prelude.{ℕ, suc, ◌+◌, Bool, cond, ◌&&◌, ◌||◌, List, [], ◌∷◌, eqb, drop, get_or}
use Rattle.base_lists.specs.Bytes.{lf, cr}

-- whether a place has LF, or CR with LF behind it
abbrev pub blank_at : List ℕ → ℕ → Bool
blank_at s at = eqb (get_or s at 0) lf || (eqb (get_or s at 0) cr && eqb (get_or s (at + 1) 0) lf)

-- how many bytes the blank lines have that a text begins with
unfoldable pub blank_run : List ℕ → ℕ
blank_run [] = 0
blank_run (x ∷ s) = cond (blank_at (x ∷ s) 0) (suc (blank_run s)) 0

-- the place behind those that stand at a cursor
abbrev pub past_blank : List ℕ → ℕ → ℕ
past_blank s at = at + blank_run (drop at s)
