-- A text laid over a buffer. Assumes nothing: these are definitions.
use Rattle.std.specs.Prelude.{◌≡◌, List, [], ◌∷◌, ℕ, ◌+◌, min, length, set}

-- d with the text laid over it from `at` on; what would stand past the end of d is left out
unfoldable pub laid : List ℕ → ℕ → List ℕ → List ℕ
laid d at [] = d
laid d at (x ∷ text) = laid (set d at x) (at + 1) text

-- what a function does that lays a text: it leaves the buffer so, and answers the place behind the text, or the buffer's end
pub record Lays (text d : List ℕ) (at : ℕ) (d' : List ℕ) (r : ℕ) : Type 0 where
  pub left : d' ≡ laid d at text
  pub end : r ≡ min (at + length text) (length d)
