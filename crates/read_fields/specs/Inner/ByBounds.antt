-- What columns 4 to 8 of a line come to by its bounds. Assumes nothing: these are definitions.
use Rattle.std.specs.Prelude.{ℕ, List, Result}
use Rattle.base_refusals.specs.declared.Refusal.{Refusal}
use Rattle.read_tokens.specs.Tokens.{position_of, strand_of, phase_of}
use Rattle.read_columns.specs.declared.column.Column.TheVariants as column
use Rattle.read_columns.specs.Columns.{ends, column_text, column_place}
use Rattle.read_fields.specs.declared.record.Record.{Record}
use Rattle.read_fields.specs.Fields.{score_of, together}

-- columns 4 to 8 of a line that has them
abbrev pub fields_in : List ℕ → Result Record Refusal
fields_in s =
    together (ends s) (position_of (column_text column.Start s)) (position_of (column_text column.End s))
    (score_of (column_text column.Score s) (column_place column.Score s)) (strand_of (column_text column.Strand s))
    (phase_of (column_text column.Phase s))
