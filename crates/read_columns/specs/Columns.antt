-- The columns of a record: GFF3, Description of the Format (nine columns, split at tabs); RULES 3. Columns 1 to 8 end at the first eight
-- tabs and may be empty; column 9 is the rest, further tabs included. Assumes nothing: these are definitions.
use Rattle.std.specs.Prelude.{ℕ, zero, suc, ◌-◌, Bool, false, cond, List, [], ◌∷◌, ◌++◌, length, ◌==◌, nat_le, Result, Ok, Err}
use Rattle.base_lists.specs.Bytes.{tab}
use Rattle.base_refusals.specs.declared.Refusal.{Refusal}
use Rattle.base_refusals.specs.declared.Refusal.TheVariants as refusal
use Rattle.base_scan.specs.declared.place.Place.{Place}
use Rattle.base_scan.specs.Part.{text_at}
use Rattle.base_words.specs.Same.{same}
use Rattle.read_columns.specs.declared.bounds.Bounds.{Bounds}
use Rattle.read_columns.specs.declared.column.Column.{Column}
use Rattle.read_columns.specs.declared.column.Column.TheVariants as column

-- ── the bounds of a line ──

-- one past tab number n of a line, or past the line where it has fewer
unfoldable pub past_tab : ℕ → List ℕ → ℕ
past_tab zero s = zero
past_tab (suc n) [] = 1
past_tab (suc n) (x ∷ s) = suc (cond (x == tab) (past_tab n s) (past_tab (suc n) s))

-- where columns 1 to 8 end: eight places, one past each tab
unfoldable pub ends : List ℕ → Bounds
ends s =
    record {
      reference_sequence_name_end = past_tab 1 s;
      source_end = past_tab 2 s;
      type_end = past_tab 3 s;
      start_end = past_tab 4 s;
      end_end = past_tab 5 s;
      score_end = past_tab 6 s;
      strand_end = past_tab 7 s;
      phase_end = past_tab 8 s;
    }

-- whether a line has eight tabs
abbrev pub has_columns : List ℕ → Bool
has_columns s = nat_le (past_tab 8 s) (length s)

-- the line's bounds; refused where it has fewer than eight tabs
unfoldable pub indexed : List ℕ → Result Bounds Refusal
indexed s = cond (has_columns s) (Ok (ends s)) (Err refusal.Columns)

-- ── bounds that are offered ──

-- the eight in a row
abbrev pub listed : Bounds → List ℕ
listed b =
    b.reference_sequence_name_end ∷ b.source_end ∷ b.type_end ∷ b.start_end ∷ b.end_end ∷ b.score_end ∷ b.strand_end ∷ b.phase_end ∷ []

abbrev pub matches : Result Bounds Refusal → Bounds → Bool
matches (Err r) b = false
matches (Ok a) b = same (listed a) (listed b)

-- whether these bounds are the line's own
unfoldable pub is_own : List ℕ → Bounds → Bool
is_own s b = matches (indexed s) b

-- ── a column ──

-- where a column stands by bounds, in a line of n bytes: from behind the tab before it to its own tab; column 9 is the rest
unfoldable pub place_in : Column → Bounds → ℕ → Place
place_in column.ReferenceSequenceName b n = record { start = 0; end = b.reference_sequence_name_end - 1 }
place_in column.Source b n = record { start = b.reference_sequence_name_end; end = b.source_end - 1 }
place_in column.Ty b n = record { start = b.source_end; end = b.type_end - 1 }
place_in column.Start b n = record { start = b.type_end; end = b.start_end - 1 }
place_in column.End b n = record { start = b.start_end; end = b.end_end - 1 }
place_in column.Score b n = record { start = b.end_end; end = b.score_end - 1 }
place_in column.Strand b n = record { start = b.score_end; end = b.strand_end - 1 }
place_in column.Phase b n = record { start = b.strand_end; end = b.phase_end - 1 }
place_in column.Attributes b n = record { start = b.phase_end; end = n }

-- where a column of a line stands, and its text
abbrev pub column_place : Column → List ℕ → Place
column_place c s = place_in c (ends s) (length s)

abbrev pub column_text : Column → List ℕ → List ℕ
column_text c s = text_at (column_place c s) s

-- refused where the bounds are not the line's own
unfoldable pub column_at : Column → List ℕ → Bounds → Result Place Refusal
column_at c s b = cond (is_own s b) (Ok (column_place c s)) (Err refusal.Columns)

-- ── a row that is written ──

-- columns, each with a tab behind it, and the rest
abbrev pub row_of : List (List ℕ) → List ℕ → List ℕ
row_of [] rest = rest
row_of (c ∷ more) rest = c ++ tab ∷ row_of more rest

-- how many tabs stand before a column
abbrev pub tabs_before : Column → ℕ
tabs_before column.ReferenceSequenceName = 0
tabs_before column.Source = 1
tabs_before column.Ty = 2
tabs_before column.Start = 3
tabs_before column.End = 4
tabs_before column.Score = 5
tabs_before column.Strand = 6
tabs_before column.Phase = 7
tabs_before column.Attributes = 8
