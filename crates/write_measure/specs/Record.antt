-- A record as it is written: GFF3, Columns 1 to 9; RULES 8.2, 11.3. Assumes nothing: these are definitions.
use Rattle.std.specs.Prelude.{ℕ, Bool, false, not, ◌&&◌, ◌||◌, Result, Err, List, [], ◌∷◌, eqb, ltb, length, Option, Some, None, is_some}
use Rattle.base_lists.specs.Bytes.{ascii}
use Rattle.base_lists.specs.Limits.{most_text}
use Rattle.base_words.specs.Same.{same}
use Rattle.base_refusals.specs.declared.Refusal.{Refusal}
use Rattle.base_refusals.specs.declared.Refusal.TheVariants as refusal
use Rattle.base_buffer.specs.Answer.{Reason, ◌when◌, refusal_of, unless}
use Rattle.read_score.specs.Score.{is_score}
use Rattle.base_scan.specs.declared.place.Place.{Place}
use Rattle.base_scan.specs.Part.{text_at}
use Rattle.sheet_form.specs.Cursor.{section_at}
use Rattle.sheet_form.specs.Sheet.{Sheet, sheet_read}
pub use Rattle.write_line.specs.Record.{sheet_line}
unfoldable pub use Rattle.write_line.specs.Record.{score_column, columns, record_line}
use Rattle.write_measure.specs.declared.reasons.Faults.{Faults}

-- ── what is asked of a sheet ──

-- a text of the sheet is asked; of a text that is no sheet nothing is
abbrev pub asked : (Sheet → Bool) → Option Sheet → Bool
asked test None = false
asked test (Some s) = test s

-- a score that is neither missing nor a token
abbrev pub bad : List ℕ → Bool
bad score = not (eqb (length score) 0 || is_score score)

abbrev pub bad_score : Sheet → Bool
bad_score s = bad s.score

-- GFF3, Column 8, phase (required for every CDS): the type is exactly `CDS`
abbrev pub is_cds : Sheet → Bool
is_cds s = same s.type (ascii "CDS")

-- ── the reasons to refuse it, in their order ──

-- what is wrong with numbers beside a score that is bad or not, and a type that is `CDS` or not
abbrev pub faults_by : Bool → Bool → ℕ → ℕ → ℕ → ℕ → Faults
faults_by score cds start end strand phase =
    record {
      position = eqb start 0 || eqb end 0;
      score = score;
      strand = ltb 3 strand;
      phase = ltb 3 phase;
      cds = cds && eqb phase 3;
    }

-- what is wrong with a sheet and its numbers
abbrev pub faults : Option Sheet → ℕ → ℕ → ℕ → ℕ → Faults
faults sheet start end strand phase = faults_by (asked bad_score sheet) (asked is_cds sheet) start end strand phase

-- "2, 17, 3, 4, 18"
abbrev pub fault_reasons : Faults → List Reason
fault_reasons f =
    (refusal.Position when f.position)
    ∷ (refusal.Score when f.score)
    ∷ (refusal.Strand when f.strand)
    ∷ (refusal.Phase when f.phase)
    ∷ (refusal.PhaseMissing when f.cds)
    ∷ []

-- the section behind another
abbrev pub section_behind : List ℕ → Option Place → Option Place
section_behind sheet None = None
section_behind sheet (Some place) = section_at sheet place.end

abbrev pub two_places : Option Place → Option Place → Option (Place × Place)
two_places (Some a) (Some b) = Some (a, b)
two_places (Some a) None = None
two_places None b = None

-- where a text has the third and the fourth section of a sheet, its type and its score
abbrev pub places_of : List ℕ → Option (Place × Place)
places_of sheet =
    let type = section_behind sheet (section_behind sheet (section_at sheet 0)) in
    two_places type (section_behind sheet type)

-- the same reasons by these two, whatever stands behind them
abbrev pub fault_at : List ℕ → Option (Place × Place) → ℕ → ℕ → ℕ → ℕ → Result (Unit {0}) Refusal
fault_at sheet None start end strand phase = Err refusal.Sheet
fault_at sheet (Some (type, score)) start end strand phase =
    let f = faults_by (bad (text_at score sheet)) (same (text_at type sheet) (ascii "CDS")) start end strand phase in
    unless (refusal_of (fault_reasons f)) tt

abbrev pub fault_of : List ℕ → ℕ → ℕ → ℕ → ℕ → Result (Unit {0}) Refusal
fault_of sheet start end strand phase = fault_at sheet (places_of sheet) start end strand phase

-- "24, 23" before them
unfoldable pub record_reasons : List ℕ → ℕ → ℕ → ℕ → ℕ → List Reason
record_reasons sheet start end strand phase =
    (refusal.TooLong when ltb most_text (length sheet))
    ∷ (refusal.Sheet when not (is_some (sheet_read sheet)))
    ∷ fault_reasons (faults (sheet_read sheet) start end strand phase)

-- ── measured, without a buffer ──

abbrev pub measured : List ℕ → ℕ → ℕ → ℕ → ℕ → Result ℕ Refusal
measured sheet start end strand phase =
    unless (refusal_of (record_reasons sheet start end strand phase)) (length (record_line sheet start end strand phase))
