-- Column 9 (RULES 5; GFF3, Column 9, attributes): equal to `.`, or empty, it has no attributes. Otherwise a tag runs to the next `=`, its
-- value to the next `;` or the end; the walk is done when nothing is left. Text that is left without `=` is refused, by number 5. A value
-- splits at each `,`, and splitting comes before decoding. Assumes nothing: these are definitions.
use Rattle.std.specs.Prelude.{ℕ, Bool, true, cond, List, [], ◌∷◌, ◌++◌, map, eqb, drop}
use Rattle.std.proofs.Math.Option.{Option, none, some}
use Rattle.base_lists.specs.Bytes.{comma, semicolon, equals}
use Rattle.base_words.specs.Same.{is_dot}
use Rattle.percent_coding.specs.Percent.{decoded}
use Rattle.read_values.specs.Pieces.{pieces}

-- what a walk meets: tags and values as they stand in the text, and then the end, or text left without `=`
pub data Walk : Type 0 where
  done refused : Walk
  then : List ℕ → List ℕ → Walk → Walk

unfoldable mutual
  -- a tag runs to the next `=`
  pub tag_after : List ℕ → List ℕ → Walk
  tag_after [] [] = done
  tag_after (y ∷ tag) [] = refused
  tag_after tag (x ∷ s) = cond (eqb x equals) (value_after tag [] s) (tag_after (tag ++ (x ∷ [])) s)

  -- its value to the next `;` or the end
  pub value_after : List ℕ → List ℕ → List ℕ → Walk
  value_after tag value [] = then tag value done
  value_after tag value (x ∷ s) = cond (eqb x semicolon) (then tag value (tag_after [] s)) (value_after tag (value ++ (x ∷ [])) s)

-- no attributes: `.` or nothing
unfoldable pub is_empty : List ℕ → Bool
is_empty [] = true
is_empty (x ∷ s) = is_dot (x ∷ s)

-- the walk over column 9 from a cursor on; `.` alone is done at any cursor
unfoldable pub walk_from : List ℕ → ℕ → Walk
walk_from column at = cond (is_dot column) done (tag_after [] (drop at column))

-- the walk over column 9
abbrev pub walk : List ℕ → Walk
walk column = walk_from column 0

-- ── what it means ──

pub record Attribute : Type 0 where
  pub tag : List ℕ
  pub values : List (List ℕ)

-- the values of a value's text: split, then decoded
abbrev pub values : List ℕ → List (List ℕ)
values value = map decoded (pieces comma value)

-- a tag and a value as they stand in the text
unfoldable pub attribute : List ℕ → List ℕ → Attribute
attribute tag value = record { tag = decoded tag; values = values value }

-- an attribute, and then those that a walk meets
abbrev pub and_before : Attribute → Option (List Attribute) → Option (List Attribute)
and_before a none = none
and_before a (some l) = some (a ∷ l)

-- the attributes that a walk meets, if it meets no text without `=`
unfoldable pub attributes : Walk → Option (List Attribute)
attributes done = some []
attributes refused = none
attributes (then tag value w) = and_before (attribute tag value) (attributes w)
