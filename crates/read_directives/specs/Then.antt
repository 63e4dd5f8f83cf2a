-- Parsing from left to right (RULES 11.7), word by word: the next one, or the answer that refuses it. Assumes nothing: these are
-- definitions.
use Rattle.std.specs.Prelude.{ℕ, cond, List, eqb, length}
use Rattle.base_scan.specs.declared.place.Place.{Place}
use Rattle.base_words.specs.Word.{word}

-- the next word from a cursor on; refused where none is left
unfoldable pub word_then : {A : Type 0} → A → List ℕ → ℕ → (Place → A) → A
word_then refused s at f = cond (eqb (word s at).start (length s)) refused (f (word s at))
