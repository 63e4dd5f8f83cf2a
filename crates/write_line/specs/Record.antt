-- A record as it is written: GFF3, Columns 1 to 9; RULES 8.2. Assumes nothing: these are definitions.
use Rattle.std.specs.Prelude.{ℕ, List, [], ◌∷◌, Option, Some, None, ◌-◌, ◌^◌, min, length}
use Rattle.base_lists.specs.Bytes.{dot}
use Rattle.write_decimals.specs.Decimal.{decimal}
use Rattle.percent_sets.specs.declared.Set.{Set}
use Rattle.percent_sets.specs.declared.Set.TheVariants.{Name, Column, Attribute}
use Rattle.percent_coding.specs.Percent.{encoded}
use Rattle.percent_sets.specs.Sets.{escapes}
use Rattle.read_attributes.specs.Written.{column}
use Rattle.read_tokens.specs.Tokens.{strand_byte, phase_byte}
use Rattle.read_columns.specs.Columns.{row_of}
use Rattle.sheet_form.specs.Sheet.{Sheet, sheet_read}

-- ── the line ──

-- the score, or `.`
unfoldable pub score_column : List ℕ → List ℕ
score_column [] = dot ∷ []
score_column (x ∷ s) = x ∷ s

-- by any encoder for each set
module _ (encode : Set → List ℕ → List ℕ) where
  -- columns 1 to 8
  unfoldable pub columns : Sheet → ℕ → ℕ → ℕ → ℕ → List (List ℕ)
  columns s start end strand phase =
      encode Name s.name
      ∷ encode Column s.source
      ∷ encode Column s.type
      ∷ decimal start
      ∷ decimal end
      ∷ score_column s.score
      ∷ (strand_byte strand ∷ [])
      ∷ (phase_byte phase ∷ [])
      ∷ []

  -- of a text that is no sheet the line is empty
  abbrev pub sheet_line : Option Sheet → ℕ → ℕ → ℕ → ℕ → List ℕ
  sheet_line None start end strand phase = []
  sheet_line (Some s) start end strand phase = row_of (columns s start end strand phase) (column (encode Attribute) s.attributes)

-- each text percent-encoded by its set
unfoldable pub record_line : List ℕ → ℕ → ℕ → ℕ → ℕ → List ℕ
record_line sheet start end strand phase = sheet_line (λ set. encoded (escapes set)) (sheet_read sheet) start end strand phase

-- how long the line is, as far as a number goes; none of a text that is no sheet
abbrev pub sheet_count : Option Sheet → List ℕ → Option ℕ
sheet_count None line = None
sheet_count (Some s) line = Some (min (length line) (2 ^ 64 - 1))

abbrev pub counted_line : List ℕ → ℕ → ℕ → ℕ → ℕ → Option ℕ
counted_line sheet start end strand phase = sheet_count (sheet_read sheet) (record_line sheet start end strand phase)
