-- Columns as C has them, a case at a time (RULES 16). Assumes nothing: these are definitions.
use Rattle.std.specs.Prelude.{ℕ, cond, List, eqb, Option, None, Some, Result, Ok, Err}
use Rattle.base_scan.specs.declared.place.Place.{Place}
use Rattle.base_refusals.specs.declared.Refusal.{Refusal}
use Rattle.base_refusals.specs.declared.Refusal.TheVariants as refusal
use Rattle.base_refusals.specs.Refusal.{number}
use Rattle.read_columns.specs.declared.bounds.Bounds.{Bounds}
use Rattle.read_columns.specs.declared.column.Column.{Column}
use Rattle.read_columns.specs.declared.column.Column.TheVariants as column
use Rattle.read_columns.specs.Columns.{column_at}
use Rattle.c_columns.specs.declared.Gff3Place.{Gff3Place}

-- ── what C hands in ──

-- the column of a number, 1 to 9 (RULES 16.1)
abbrev pub column_of_c : ℕ → Option Column
column_of_c n =
    cond (eqb n 1) (Some column.ReferenceSequenceName)
    (cond (eqb n 2) (Some column.Source)
    (cond (eqb n 3) (Some column.Ty)
    (cond (eqb n 4) (Some column.Start)
    (cond (eqb n 5) (Some column.End)
    (cond (eqb n 6) (Some column.Score)
    (cond (eqb n 7) (Some column.Strand) (cond (eqb n 8) (Some column.Phase) (cond (eqb n 9) (Some column.Attributes) None))))))))

-- ── what it gets ──

-- where a column stands; a number that is no column's is refused by 1, as bounds are that are not the line's own (RULES 16.3)
abbrev pub c_column_at : Option Column → List ℕ → Bounds → Result Place Refusal
c_column_at (Some c) s b = column_at c s b
c_column_at None s b = Err refusal.Columns

abbrev pub c_place : Result Place Refusal → Gff3Place
c_place (Ok place) = record { refused = 0; start = place.start; end = place.end }
c_place (Err r) = record { refused = number r; start = 0; end = 0 }
