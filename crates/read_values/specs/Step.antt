-- A step over the values of an attribute (RULES 5.4), as a function of the value's text and the cursor alone; and steps in a row. Assumes
-- nothing: these are definitions.
use Rattle.std.specs.Prelude.{ℕ, ◌+◌, min, false, cond, List, eqb, length, Option, Some, None}
use Rattle.base_lists.specs.Bytes.{comma}
use Rattle.base_lists.specs.Steps.{steps}
use Rattle.base_scan.specs.Find.{found}
use Rattle.base_scan.specs.Part.{text_at}
use Rattle.base_scan.specs.declared.place.Place.{Place}
use Rattle.read_values.specs.declared.ValueCursor.{ValueCursor}

-- the value that begins at a cursor and ends at e: the next cursor is one past its `,`; where e is the text's end the value is the last, and
-- the cursor stays at the end
abbrev pub value_to : List ℕ → ℕ → ℕ → Option (Place × ValueCursor)
value_to s at e = Some (record { start = at; end = e }, record { at = min (e + 1) (length s); out = eqb e (length s) })

-- a new cursor: at the start, the last value not out
abbrev pub fresh : ValueCursor
fresh = record { at = 0; out = false }

-- a cursor beyond the text counts as at its end. One that says "last not out" gives one empty value there; one that says "last out" gives
-- none, whatever its offset
unfoldable pub next_value : List ℕ → ValueCursor → Option (Place × ValueCursor)
next_value s c = let at = min c.at (length s) in cond c.out None (value_to s at (found comma at s))

-- what comes of an answer: the value as it stands, and the next cursor
abbrev pub value_then : List ℕ → Option (Place × ValueCursor) → Option (List ℕ × ValueCursor)
value_then s None = None
value_then s (Some (place, cursor)) = Some (text_at place s, cursor)

-- the values, as they stand, that n steps in a row hand out from a cursor on
abbrev pub value_steps : ℕ → List ℕ → ValueCursor → List (List ℕ)
value_steps n s = steps (next_value s) (value_then s) n
