-- Items as a text, and which of them lie before a stretch of that text and which after it, by lengths. For items of any kind that have a
-- line each. Assumes nothing: these are definitions.
use Rattle.std.specs.Prelude.{ℕ, ◌+◌, ◌-◌, cond, List, [], ◌∷◌, map, leb, length}
use Rattle.read_lines.specs.Lines.{text}

module _ {Item : Type 0} (line : Item → List ℕ) where
  -- the lines of items
  abbrev pub lines_of : List Item → List (List ℕ)
  lines_of items = map line items

  -- items as a text: "each line ended by a line feed"
  abbrev pub text_of : List Item → List ℕ
  text_of items = text (lines_of items)

  -- ── before ──

  -- the bytes of an item in that text: its line, line feed included
  abbrev pub size : Item → ℕ
  size i = length (line i) + 1

  -- The items that lie before a stretch which begins behind the first n bytes: those whose line, line feed included, ends within these
  -- bytes.
  unfoldable pub before : ℕ → List Item → List Item
  before n [] = []
  before n (i ∷ more) = cond (leb (size i) n) (i ∷ before (n - size i) more) []

  -- ── after ──

  -- the bytes of items that stand behind another: their lines, together with the line feed before the first of them
  abbrev pub size_behind : List Item → ℕ
  size_behind items = 1 + length (text_of items)

  -- The items that lie after a stretch which ends where the last n bytes begin: those whose line begins within these bytes, together with
  -- the line feed before it. So an item is skipped until those behind it fit. The first item has no line feed before it: it is never one of
  -- them, not even where the stretch is empty and stands at the start, since what is put there may be half a line.
  unfoldable pub after : ℕ → List Item → List Item
  after n [] = []
  after n (i ∷ more) = cond (leb (size_behind more) n) more (after n more)
