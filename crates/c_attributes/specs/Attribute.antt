-- The answers on column 9 as C has them, a case at a time (RULES 16). Assumes nothing: these are definitions.
use Rattle.std.specs.Prelude.{ℕ, not, List, eqb, Option, Some, None, Result, Ok, Err}
use Rattle.base_lists.specs.Bit.{bit}
use Rattle.base_refusals.specs.declared.Refusal.{Refusal}
use Rattle.base_refusals.specs.Refusal.{number}
use Rattle.base_scan.specs.declared.place.Place.{Place}
use Rattle.read_attributes.specs.declared.field.Field.{Field}
use Rattle.read_attributes.specs.Step.{next_field}
use Rattle.read_values.specs.declared.ValueCursor.{ValueCursor}
use Rattle.read_values.specs.Step.{next_value}
use Rattle.c_answers.specs.Answers.{clipped}
use Rattle.c_attributes.specs.declared.Gff3Field.{Gff3Field}
use Rattle.c_attributes.specs.declared.Gff3Value.{Gff3Value}

-- an answer at a cursor that counts as `here`
abbrev pub c_field : ℕ → Result (Option Field) Refusal → Gff3Field
c_field here (Ok (Some field)) =
    record {
      refused = 0;
      done = 0;
      tag_start = field.tag.start;
      tag_end = field.tag.end;
      value_start = field.value.start;
      value_end = field.value.end;
      next = field.next;
    }
c_field here (Ok None) =
    record { refused = 0; done = 1; tag_start = 0; tag_end = 0; value_start = 0; value_end = 0; next = here }
c_field here (Err r) =
    record { refused = number r; done = 0; tag_start = 0; tag_end = 0; value_start = 0; value_end = 0; next = here }

-- what `gff3_next_field` answers
abbrev pub c_next_field : List ℕ → ℕ → Gff3Field
c_next_field s at = c_field (clipped s at) (next_field s at)

-- the cursor that C hands in: any number but 0 says that the last value is out
abbrev pub cursor_of_c : ℕ → ℕ → ValueCursor
cursor_of_c at out = record { at = at; out = not (eqb out 0) }

-- an answer at a cursor that counts as `here`; where it is done, the last value is out
abbrev pub c_value : ℕ → Option (Place × ValueCursor) → Gff3Value
c_value here (Some (place, cursor)) =
    record { done = 0; start = place.start; end = place.end; next = cursor.at; out = bit cursor.out }
c_value here None = record { done = 1; start = 0; end = 0; next = here; out = 1 }

-- what `gff3_next_value` answers
abbrev pub c_next_value : List ℕ → ℕ → ℕ → Gff3Value
c_next_value s at out = c_value (clipped s at) (next_value s (cursor_of_c at out))
