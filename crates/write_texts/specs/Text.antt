-- What is asked of a text before it is written, RULES 8.3, 8.4, 12. Assumes nothing: these are definitions.
use Rattle.std.specs.Prelude.{ℕ, Bool, false, ◌||◌, List, [], ◌∷◌, eqb, ltb, length}
use Rattle.base_lists.specs.Bytes.{lf, cr}
use Rattle.base_lists.specs.Limits.{most_text}
use Rattle.base_scan.specs.Find.{is}
use Rattle.base_words.specs.Word.{is_space}

-- a byte of the text passes the test
unfoldable pub holds : (ℕ → Bool) → List ℕ → Bool
holds test [] = false
holds test (x ∷ s) = test x || holds test s

-- too long
abbrev pub long : List ℕ → Bool
long s = ltb most_text (length s)

-- with a carriage return or a line feed
abbrev pub breaks : List ℕ → Bool
breaks s = holds (is cr) s || holds (is lf) s

-- no word: empty, or with ASCII white space
abbrev pub unfit : List ℕ → Bool
unfit s = eqb (length s) 0 || holds is_space s
