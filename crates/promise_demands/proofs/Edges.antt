-- `before` and `after` at the edges of items, computed. Assumes nothing.
use Prim.Native.String.{String}
use native.Mathlib.Omega.{arith}
use mathlib.Core.Path.{◌≡◌, refl}
use mathlib.Core.List.{List, [], ◌∷◌}
use Rattle.base_lists.specs.Bytes.{Every, ascii}
use Rattle.read_lines.specs.Lines.{text}
use Rattle.write_comment.specs.Comment.{comment_reasons, hashed}
use Rattle.write_texts.specs.Text.{holds}
use Rattle.promise_demands.specs.Item.{Item, comment, line_of, reasons_of, Typed, Accepted}
use Rattle.promise_survival.specs.Survivors.{before, after}

-- the comments `#a`, `#b` and `#c` as a text of nine bytes
abbrev mark : String → Item
mark s = comment (ascii s)

abbrev three : List Item
three = mark "a" ∷ mark "b" ∷ mark "c" ∷ []

-- the writer accepts them
three_accepted : Every Accepted three
unfolding Typed reasons_of comment_reasons holds hashed
three_accepted = (((omega arith, tt), refl), (((omega arith, tt), refl), (((omega arith, tt), refl), tt)))

-- bytes put between `#a` and `#b`: the line feed before `#b` stands before them, so `#b` may be torn
put_between : (before line_of 3 three ≡ mark "a" ∷ []) × (after line_of 6 three ≡ mark "c" ∷ [])
unfolding before after line_of text
put_between = (refl, refl)

-- bytes put before that line feed: `#a` is torn, and `#b` is not
put_before_feed : (before line_of 2 three ≡ []) × (after line_of 7 three ≡ mark "b" ∷ mark "c" ∷ [])
unfolding before after line_of text
put_before_feed = (refl, refl)

-- bytes put at the start: the first item has no line feed before it
put_first : (before line_of 0 three ≡ []) × (after line_of 9 three ≡ mark "b" ∷ mark "c" ∷ [])
unfolding before after line_of text
put_first = (refl, refl)

-- bytes put at the end: no item is behind them
put_last : (before line_of 9 three ≡ three) × (after line_of 0 three ≡ [])
unfolding before after line_of text
put_last = (refl, refl)

-- the line feed of `#b` replaced: `#b` is torn, and so is `#c`, whose line begins behind it
replaced_feed : (before line_of 5 three ≡ mark "a" ∷ []) × (after line_of 3 three ≡ [])
unfolding before after line_of text
replaced_feed = (refl, refl)
