-- The answers on lines as C has them, a case at a time (RULES 16). Assumes nothing: these are definitions.
use Rattle.std.specs.Prelude.{ℕ, List, length, Option, Some, None}
use Rattle.base_scan.specs.declared.place.Place.{Place}
use Rattle.read_lines.specs.declared.Cursor.{Cursor}
use Rattle.read_lines.specs.Step.{next_line}
use Rattle.read_kind.specs.declared.directive.KeyValue.{KeyValue}
use Rattle.c_lines.specs.declared.Gff3Line.{Gff3Line}
use Rattle.c_lines.specs.declared.Gff3CommentText.{Gff3CommentText}
use Rattle.c_lines.specs.declared.Gff3DirectiveText.{Gff3DirectiveText}

-- the cursor that C hands in
abbrev pub cursor_of_c : ℕ → Cursor
cursor_of_c at = record { at = at }

-- an answer on a text of n bytes
abbrev pub c_line : ℕ → Option (Place × Cursor) → Gff3Line
c_line n (Some (place, cursor)) = record { done = 0; start = place.start; end = place.end; next = cursor.at }
c_line n None = record { done = 1; start = 0; end = 0; next = n }

-- what `gff3_next_line` answers
abbrev pub c_next_line : List ℕ → ℕ → Gff3Line
c_next_line s at = c_line (length s) (next_line s (cursor_of_c at))

abbrev pub c_comment : Option Place → Gff3CommentText
c_comment (Some place) = record { is = 1; start = place.start; end = place.end }
c_comment None = record { is = 0; start = 0; end = 0 }

abbrev pub c_key_value : Place → Option Place → Gff3DirectiveText
c_key_value key (Some place) =
    record { is = 1; key_start = key.start; key_end = key.end; has_value = 1; value_start = place.start; value_end = place.end }
c_key_value key None =
    record { is = 1; key_start = key.start; key_end = key.end; has_value = 0; value_start = 0; value_end = 0 }

abbrev pub c_directive : Option KeyValue → Gff3DirectiveText
c_directive (Some d) = c_key_value d.key d.value
c_directive None = record { is = 0; key_start = 0; key_end = 0; has_value = 0; value_start = 0; value_end = 0 }
