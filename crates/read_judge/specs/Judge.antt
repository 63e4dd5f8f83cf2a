-- A line judged as unfolding it would: RULES 9.3, 11.2. Its refusals, in order: 24, 1, 2 (start, end), 17, 3, 4, 5.
-- Assumes nothing: these are definitions.
use Rattle.std.specs.Prelude.{ℕ, Bool, true, false, cond, not, ◌||◌, Result, Ok, Err, is_err, List, [], ◌∷◌, ◌++◌, ltb, length}
use Rattle.std.proofs.Math.Option.{Option, none, some}
use Rattle.base_lists.specs.Limits.{most_line}
use Rattle.base_words.specs.Same.{is_dot}
use Rattle.base_refusals.specs.declared.Refusal.{Refusal}
use Rattle.base_refusals.specs.declared.Refusal.TheVariants as refusal
use Rattle.base_buffer.specs.Answer.{Reason, ◌when◌, refusal_of, unless}
use Rattle.percent_coding.specs.Percent.{decoded}
use Rattle.read_tokens.specs.declared.strand.Strand.TheVariants as strand
use Rattle.read_tokens.specs.declared.phase.Phase.TheVariants as phase
use Rattle.read_tokens.specs.Tokens.{position_of, strand_of, phase_of}
use Rattle.read_score.specs.Score.{is_score}
use Rattle.read_columns.specs.declared.column.Column.TheVariants as column
use Rattle.read_columns.specs.Columns.{has_columns, column_text}
use Rattle.read_attributes.specs.Attributes.{Attribute, attributes, walk}
use Rattle.sheet_form.specs.Sheet.{Sheet, sheet_of}
use Rattle.read_judge.specs.declared.judging.Numbers.{Numbers}

-- ── the sheet ──

-- "score (count 0: missing)": only the exact `.` is missing, else the raw token
unfoldable pub score_of_token : List ℕ → List ℕ
score_of_token token = cond (is_dot token) [] token

-- the attributes, or none where the walk is refused
abbrev pub got : Option (List Attribute) → List Attribute
got none = []
got (some l) = l

-- "all text but the score is decoded"
unfoldable pub unfolded : List ℕ → Sheet
unfolded s =
    record {
      name = decoded (column_text column.ReferenceSequenceName s);
      source = decoded (column_text column.Source s);
      type = decoded (column_text column.Ty s);
      score = score_of_token (column_text column.Score s);
      attributes = got (attributes (walk (column_text column.Attributes s)));
    }

-- ── the numbers beside it ──

-- what was read, or what stands where the column is refused
abbrev pub or_else : {A : Type 0} → Result A Refusal → A → A
or_else (Ok x) other = x
or_else (Err r) other = other

-- "start, end, strand and phase go beside the sheet as numbers"
unfoldable pub numbers_of : List ℕ → Numbers
numbers_of s =
    record {
      start = or_else (position_of (column_text column.Start s)) 0;
      end = or_else (position_of (column_text column.End s)) 0;
      strand = or_else (strand_of (column_text column.Strand s)) strand.None;
      phase = or_else (phase_of (column_text column.Phase s)) phase.None;
    }

-- ── the reasons to refuse, in their order ──

abbrev pub no_score : List ℕ → Bool
no_score token = not (is_dot token || is_score token)

-- text is left without `=`
abbrev pub stuck : Option (List Attribute) → Bool
stuck none = true
stuck (some l) = false

-- columns 4 to 8 of a line that has its columns: "2 (start, end), 17, 3, 4"
abbrev pub middle_reasons : List ℕ → List Reason
middle_reasons s =
    (refusal.Position when is_err (position_of (column_text column.Start s)))
    ∷ (refusal.Position when is_err (position_of (column_text column.End s)))
    ∷ (refusal.Score when no_score (column_text column.Score s))
    ∷ (refusal.Strand when is_err (strand_of (column_text column.Strand s)))
    ∷ (refusal.Phase when is_err (phase_of (column_text column.Phase s)))
    ∷ []

-- column 9: "5"
abbrev pub attributes_reasons : List ℕ → List Reason
attributes_reasons s = (refusal.Attribute when stuck (attributes (walk (column_text column.Attributes s)))) ∷ []

abbrev pub field_reasons : List ℕ → List Reason
field_reasons s = middle_reasons s ++ attributes_reasons s

-- "24, 1" before them; 22 comes after
abbrev pub unfold_reasons : List ℕ → List Reason
unfold_reasons s = (refusal.TooLong when ltb most_line (length s)) ∷ (refusal.Columns when not (has_columns s)) ∷ field_reasons s

-- ── the answer ──

abbrev pub judged : List ℕ → Result (Numbers × ℕ) Refusal
judged s = unless (refusal_of (unfold_reasons s)) (numbers_of s, length (sheet_of (unfolded s)))

-- the numbers of it alone
abbrev pub numbers_judged : Result (Numbers × ℕ) Refusal → Result Numbers Refusal
numbers_judged (Ok (numbers, length)) = Ok numbers
numbers_judged (Err r) = Err r
