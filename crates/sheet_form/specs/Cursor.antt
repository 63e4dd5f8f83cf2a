-- A count and a section at a cursor, as functions of the text and the cursor alone; a cursor beyond the text is malformed. Assumes
-- nothing: these are definitions.
use Rattle.std.specs.Prelude.{ℕ, ◌+◌, ◌*◌, cond, List, leb, length, get_or, Option, Some, None}
use Rattle.base_scan.specs.declared.place.Place.{Place}

-- ── the number of each refusal (RULES 10), and 0 where there is none ──

abbrev pub count_refusal : Option (ℕ × ℕ) → ℕ
count_refusal (Some c) = 0
count_refusal None = 23

abbrev pub section_refusal : Option Place → ℕ
section_refusal (Some place) = 0
section_refusal None = 23

-- ── at a cursor ──

-- the number that the four bytes at a cursor make, low byte first
abbrev pub number_at : List ℕ → ℕ → ℕ
number_at s at = get_or s at 0 + 256 * get_or s (at + 1) 0 + 65536 * (get_or s (at + 2) 0 + 256 * get_or s (at + 3) 0)

-- the count, and the cursor behind it
unfoldable pub count_at : List ℕ → ℕ → Option (ℕ × ℕ)
count_at s at = cond (leb (at + 4) (length s)) (Some (number_at s at, at + 4)) None

-- so many bytes after a count, if there are so many
abbrev pub section_after : List ℕ → Option (ℕ × ℕ) → Option Place
section_after s None = None
section_after s (Some (n, start)) = cond (leb (start + n) (length s)) (Some (record { start = start; end = start + n })) None

unfoldable pub section_at : List ℕ → ℕ → Option Place
section_at s at = section_after s (count_at s at)
