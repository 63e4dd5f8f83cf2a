-- A record that the writer accepts reads back as it was, and is one line that is short enough to unfold: of the encoders of its texts their
-- laws alone are asked. Assumes nothing.
use Prim.Native.Nat.{ℕ, ◌≤◌}
use native.Mathlib.Omega.{arith}
use mathlib.Core.Path.{◌≡◌, refl, sym, ap, ◌∙◌}
use mathlib.Core.Bool.{true}
use mathlib.Core.List.{List}
use mathlib.Core.Option.{some}
use Rattle.std.specs.Prelude.{Some}
use lib.ListN.{length, get_or}
use Rattle.std.specs.Prelude.{None, Result, Ok}
use borrow.Author.Tests.{le-ltb}
use Rattle.base_lists.specs.Bytes.{Bytes}
use Rattle.base_lists.specs.Limits.{most_line}
use Rattle.base_buffer.specs.declared.WriteError.{WriteError}
use Rattle.base_buffer.specs.Answer.{refusal_of, Wrote}
use Rattle.base_buffer.proofs.AnswerLaws.{wrote_means, wrote_given_room}
use Rattle.write_decimals.specs.Decimal.{decimal}
use Rattle.read_numbers.specs.Number.{most64}
use Rattle.write_decimals.proofs.DecimalLaws.{position_decimal}
use Rattle.percent_coding.specs.Percent.{encoded}
use Rattle.percent_coder.specs.Coder.{Coder}
use Rattle.percent_sets.specs.declared.Set.{Set}
use Rattle.percent_sets.specs.declared.Set.TheVariants as set
use Rattle.percent_sets.specs.Sets.{escapes}
use Rattle.percent_sets.specs.Bars.{bars}
use Rattle.percent_sets.proofs.SetLaws.{coder_of, bars_signs}
use Rattle.read_kind.specs.declared.kind.Kind.TheVariants.{Record}
use Rattle.read_kind.specs.Kind.{kind}
use Rattle.read_lines.specs.Lines.{OneLine}
use Rattle.read_attributes.specs.Attributes.{attributes, walk}
use Rattle.read_attributes.specs.Written as column9
use Rattle.read_attributes.proofs.WrittenLaws.{walk_column}
use Rattle.read_tokens.specs.Tokens.{position_of, strand_of, phase_of}
use Rattle.read_columns.specs.declared.column.Column.{Column}
use Rattle.read_columns.specs.declared.column.Column.TheVariants as column
use Rattle.read_columns.specs.Columns.{has_columns, column_text, tabs_before}
use Rattle.read_columns.proofs.ColumnsLaws.{row_record, row_text}
use Rattle.sheet_form.specs.Sheet.{sheet_read, sheet_of}
use Rattle.write_measure.specs.Record.{columns, sheet_line, record_reasons, record_line}
use Rattle.read_judge.specs.declared.judging.Numbers.{Numbers}
use Rattle.read_judge.specs.Judge.{unfolded, numbers_of, unfold_reasons}
use Rattle.read_record.specs.Unfold.{as_written, with_numbers, Unfolds}
use Rattle.promise_roundtrip.specs.Reading.{AreNumbers, Gives, ReadsRecord}
use Rattle.promise_roundtrip.proofs.AcceptedLaws.{AcceptedRecord, accepted, strand_numbered, phase_numbered, strand_numbered_is}
use Rattle.promise_roundtrip.proofs.AcceptedLaws.{phase_numbered_is, strand_byte_back, phase_byte_back, score_read}
use Rattle.promise_roundtrip.proofs.LineLaws.{writable, columns_no_tab, line_one, line_kind, line_short}

-- what unfolding makes of the line, said of the definitions: no reason to refuse it, this sheet and these numbers
pub record Unfolding (line sheet : List ℕ) (start end strand phase : ℕ) : Type 0 where
  pub no_reason : refusal_of (unfold_reasons line) ≡ None
  pub same_sheet : sheet_of (unfolded line) ≡ sheet
  pub same_numbers : AreNumbers (numbers_of line) start end strand phase

-- ── the columns of the line ───────────────────────────────────────────────────────────────────

-- a position that is written is read
position_back : (n : ℕ) → 1 ≤ n → n ≤ most64 → position_of (decimal n) ≡ Ok n
unfolding position_of
position_back n h g = rw (position_decimal n h g)

module _ {encode : Set → List ℕ → List ℕ} (coder : (set : Set) → Coder (bars set) (encode set))
    {text : List ℕ} {start end strand phase : ℕ} (a : AcceptedRecord text start end strand phase) (low : start ≤ most64)
    (high : end ≤ most64) where
  abbrev line : List ℕ
  line = sheet_line encode (Some a.sheet) start end strand phase

  -- column 9 as it is written
  abbrev column_9 : List ℕ
  column_9 = column9.column (encode set.Attribute) a.sheet.attributes

  -- each column as it was written
  text_is : (c : Column) → column_text c line ≡ get_or (columns encode a.sheet start end strand phase) (tabs_before c) column_9
  unfolding columns
  text_is c = row_text (columns encode a.sheet start end strand phase) column_9 refl (columns_no_tab coder a) c

  is_record : has_columns line ≡ true
  unfolding columns
  is_record = row_record (columns encode a.sheet start end strand phase) column_9 refl (columns_no_tab coder a)

  start_read : position_of (column_text column.Start line) ≡ Ok start
  unfolding columns
  start_read = rw (text_is column.Start) (position_back start a.some_start low)

  end_read : position_of (column_text column.End line) ≡ Ok end
  unfolding columns
  end_read = rw (text_is column.End) (position_back end a.some_end high)

  strand_is : strand_of (column_text column.Strand line) ≡ Ok (strand_numbered strand)
  unfolding columns
  strand_is = rw (text_is column.Strand) (strand_byte_back strand a.strand_known)

  phase_is : phase_of (column_text column.Phase line) ≡ Ok (phase_numbered phase)
  unfolding columns
  phase_is = rw (text_is column.Phase) (phase_byte_back phase a.phase_known)

  attributes_read : attributes (walk (column_text column.Attributes line)) ≡ some a.sheet.attributes
  unfolding columns
  attributes_read =
      rw (text_is column.Attributes)
      (walk_column (coder set.Attribute) bars_signs.0 bars_signs.1 bars_signs.2 a.sheet.attributes
      (writable a.sheet.attributes a.good.good_attributes.1))

  -- ── what unfolding makes of it ──

  no_reason : refusal_of (unfold_reasons line) ≡ None
  unfolding columns
  no_reason =
      let short = line_short coder a low high in
      rw (
        le-ltb most_line (length line) (omega arith),
        is_record,
        start_read,
        end_read,
        text_is column.Score,
        (score_read a.sheet.score a.fit_score).0,
        strand_is,
        phase_is,
        attributes_read,
      )

  sheet_back : unfolded line ≡ a.sheet
  unfolding columns unfolded
  sheet_back =
      let s = a.sheet in
      rw (
        text_is column.ReferenceSequenceName,
        (coder set.Name).back s.name a.good.good_name.1,
        text_is column.Source,
        (coder set.Column).back s.source a.good.good_source.1,
        text_is column.Ty,
        (coder set.Column).back s.type a.good.good_type.1,
        text_is column.Score,
        (score_read s.score a.fit_score).1,
        attributes_read,
      )

  numbers_back : AreNumbers (numbers_of line) start end strand phase
  unfolding numbers_of
  numbers_back =
      record {
        same_start = rw start_read;
        same_end = rw end_read;
        same_strand = rw strand_is (strand_numbered_is strand a.strand_known);
        same_phase = rw phase_is (phase_numbered_is phase a.phase_known);
      }

  line_unfolds : Unfolding line text start end strand phase
  line_unfolds =
      record { no_reason = no_reason; same_sheet = ap sheet_of sheet_back ∙ sym a.whole; same_numbers = numbers_back }

-- ── the record as a whole ─────────────────────────────────────────────────────────────────────

-- a line that unfolds into a sheet gives it, whatever the buffer held
pub unfolding_gives : {line sheet : List ℕ} {start end strand phase : ℕ} → Unfolding line sheet start end strand phase
    → (d d' : List ℕ) (r : Result (Numbers × ℕ) WriteError) → length sheet ≤ length d → Unfolds line d d' r → Gives sheet start end strand phase d d' r
unfolding_gives {line} {sheet} u d d' r room p =
    let w : Wrote (unfold_reasons line) sheet d d' (as_written r) = rw u.same_sheet at p.wrote in
    let e = wrote_given_room u.no_reason room w in
    record {
      numbers = numbers_of line;
      same_numbers = u.same_numbers;
      answer = p.same ∙ ap (with_numbers (numbers_of line)) e;
      left = (wrote_means (rw e at w)).2;
    }

module _ (text : List ℕ) (start end strand phase : ℕ) (bytes : Bytes text) (low : start ≤ most64) (high : end ≤ most64)
    (writes : refusal_of (record_reasons text start end strand phase) ≡ None) where
  taken : AcceptedRecord text start end strand phase
  taken = accepted text start end strand phase bytes writes

  -- the line, by the sets' own encoders
  line_is : record_line text start end strand phase ≡ sheet_line (λ set. encoded (escapes set)) (Some taken.sheet) start end strand phase
  unfolding record_line
  line_is = rw taken.reads

  pub record_kind : kind (record_line text start end strand phase) ≡ Record
  record_kind = rw line_is (line_kind coder_of taken)

  pub record_one : OneLine (record_line text start end strand phase)
  record_one = rw line_is (line_one coder_of taken)

  -- so it is under the 4,194,304 bytes that can be unfolded
  pub record_short : length (record_line text start end strand phase) ≤ 3145720
  record_short = rw line_is (line_short coder_of taken low high)

  -- what is unfolded is the sheet that the text is read as
  pub record_sheet : sheet_read text ≡ Some (unfolded (record_line text start end strand phase))
  record_sheet = rw (line_is, sheet_back coder_of taken low high) taken.reads

  pub record_unfolds : Unfolding (record_line text start end strand phase) text start end strand phase
  record_unfolds = rw line_is (line_unfolds coder_of taken low high)

  pub record_back : ReadsRecord (record_line text start end strand phase) text start end strand phase
  record_back = record { is_record = record_kind; gives = unfolding_gives record_unfolds }
