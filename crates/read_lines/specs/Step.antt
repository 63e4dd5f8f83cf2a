-- One step of the splitter (RULES 1.5), as a function of the text and the cursor alone, and steps in a row. Assumes nothing: these are
-- definitions.
use Rattle.std.specs.Prelude.{ℕ, ◌+◌, ◌-◌, cond, List, eqb, leb, length, get_or, Option, Some, None}
use Rattle.base_lists.specs.Bytes.{lf, cr}
use Rattle.base_lists.specs.Steps.{steps}
use Rattle.base_scan.specs.Find.{found}
use Rattle.base_scan.specs.Part.{text_at}
use Rattle.base_scan.specs.declared.place.Place.{Place}
use Rattle.read_lines.specs.declared.Cursor.{Cursor}
use Rattle.read_lines.specs.Blank.{past_blank}

-- a new cursor: at the start
abbrev pub fresh : Cursor
fresh = record { at = 0 }

-- where a line ends that has a byte and whose line feed is at k: before a carriage return, if that stands just before the line feed
abbrev pub line_end : List ℕ → ℕ → ℕ
line_end s k = cond (eqb (get_or s (k - 1) 0) cr) (k - 1) k

-- the line from a place to e, and the next cursor at k
abbrev pub line_to : ℕ → ℕ → ℕ → Option (Place × Cursor)
line_to at e k = Some (record { start = at; end = e }, record { at = k })

-- the next line from a cursor on, behind blank ones, with the next cursor; none where no line is left
unfoldable pub next_line : List ℕ → Cursor → Option (Place × Cursor)
next_line s c =
    let at = past_blank s c.at in
    let k = found lf at s in
    cond (leb (length s) at) None (cond (eqb k (length s)) (line_to at k k) (line_to at (line_end s k) (k + 1)))

-- what comes of an answer: the line as it stands, and the next cursor
abbrev pub line_then : List ℕ → Option (Place × Cursor) → Option (List ℕ × Cursor)
line_then s None = None
line_then s (Some (place, next)) = Some (text_at place s, next)

-- the lines that n steps in a row hand out from a cursor on
abbrev pub line_steps : ℕ → List ℕ → Cursor → List (List ℕ)
line_steps n s = steps (next_line s) (line_then s) n
