-- A line that is unfolded, and written again from its own sheet and numbers: the writer refuses it by 24 or 18 alone, and what is written
-- reads back as that sheet and those numbers. Assumes nothing.
use Prim.Native.Nat.{ℕ}
use native.Mathlib.Omega.{arith}
use mathlib.Core.Path.{◌≡◌, refl, ap, ◌∙◌}
use mathlib.Core.Bool.{Bool, true, false, cond, not, ◌||◌, true≢false}
use mathlib.Core.List.{List, []}
use Rattle.std.specs.Prelude.{Option, Some, None, Result, Ok, ok_or, is_err}
use lib.Dec.{eqb, ltb}
use lib.ListN.{length, take, drop}
use lib.Seq.{take-append_seam}
use borrow.Author.Tests.{ltb-false, ne_eqb}
use Rattle.base_lists.specs.Bytes.{Bytes}
use Rattle.base_lists.specs.Limits.{most_line}
use Rattle.base_words.specs.Same.{is_dot}
use Rattle.base_refusals.specs.declared.Refusal.TheVariants as refusal
use Rattle.base_buffer.specs.declared.WriteError.{WriteError}
use Rattle.base_buffer.specs.Answer.{refusal_of}
use Rattle.base_buffer.proofs.AnswerLaws.{none_of, wrote_means}
use Rattle.read_numbers.specs.Number.{position}
use Rattle.read_numbers.proofs.NumberLaws.{numeral_bounds}
use Rattle.read_score.specs.Score.{is_score}
use Rattle.read_tokens.specs.declared.strand.Strand.{Strand}
use Rattle.read_tokens.specs.declared.strand.Strand.TheVariants as strand
use Rattle.read_tokens.specs.declared.phase.Phase.{Phase}
use Rattle.read_tokens.specs.declared.phase.Phase.TheVariants as phase
use Rattle.read_tokens.specs.Tokens.{position_of, strand_number, phase_number}
use Rattle.read_columns.specs.declared.column.Column.TheVariants as column
use Rattle.read_columns.specs.Columns.{column_text}
use Rattle.sheet_form.specs.Sheet.{sheet_of}
use Rattle.write_measure.specs.Record.{record_reasons}
use Rattle.read_judge.specs.declared.judging.Numbers.{Numbers}
use Rattle.read_judge.specs.Judge.{score_of_token, unfolded, or_else, numbers_of, no_score, unfold_reasons}
use Rattle.read_record.specs.Unfold.{Unfolds}
use Rattle.promise_roundtrip.specs.Again.{reasons_again, reasons_left, ReadsAgain}
use Rattle.promise_roundtrip.proofs.AcceptedLaws.{Fit}
use Rattle.promise_roundtrip.proofs.BytesLaws.{unfolded_bytes, position_le}
use Rattle.promise_roundtrip.proofs.FormLaws.{unfolded_reads}
use Rattle.promise_roundtrip.proofs.RecordBack.{record_back}

-- ── what unfolding does not refuse, the writer does not ───────────────────────────────────────

-- a position is not zero
some_position : (s : List ℕ) → is_err (position_of s) ≡ false → eqb (or_else (position_of s) 0) 0 ≡ false
unfolding position_of
some_position s e = go (position s) refl e
  where
    go : (n : Option ℕ) → position s ≡ n → is_err (ok_or n refusal.Position) ≡ false → eqb (or_else (ok_or n refusal.Position) 0) 0 ≡ false
    go (Some v) p e = ne_eqb v 0 (λ z. omega (arith, (numeral_bounds s p).0))
    go None p e = absurd (true≢false e)

-- a score is missing or a token
fit_token : (s : List ℕ) → no_score s ≡ false → Fit (score_of_token s)
unfolding score_of_token
fit_token s e = go (is_dot s) (eqb (length s) 0) (is_score s) refl refl e
  where
    go : (d z t : Bool) → eqb (length s) 0 ≡ z → is_score s ≡ t → not (d || t) ≡ false → Fit (cond d [] s)
    go true z t p q e = refl
    go false true t p q e = rw p
    go false false t p q e = rw (p, q) e

-- strands and phases are numbered from 0 to 3
strand_known : (x : Strand) → ltb 3 (strand_number x) ≡ false
unfolding strand_number
strand_known strand.None = refl
strand_known strand.Forward = refl
strand_known strand.Reverse = refl
strand_known strand.Unknown = refl

phase_known : (x : Phase) → ltb 3 (phase_number x) ≡ false
unfolding phase_number
phase_known phase.Zero = refl
phase_known phase.One = refl
phase_known phase.Two = refl
phase_known phase.None = refl

-- so, of a line that unfolding does not refuse, the writer's reasons come to the two that are left
pub refused_again : (line : List ℕ) → Bytes line → refusal_of (unfold_reasons line) ≡ None
    → refusal_of (reasons_again (sheet_of (unfolded line)) (numbers_of line)) ≡ refusal_of (reasons_left line)
unfolding record_reasons unfolded numbers_of
refused_again line bytes none =
    let known = none_of (unfold_reasons line) none in
    let middle = known.1.1 in
    rw (
      unfolded_reads line bytes (ltb-false most_line (length line) known.0),
      some_position (column_text column.Start line) middle.0,
      some_position (column_text column.End line) middle.1.0,
      fit_token (column_text column.Score line) middle.1.1.0,
      strand_known (numbers_of line).strand,
      phase_known (numbers_of line).phase,
    )

-- ── what is written reads back ────────────────────────────────────────────────────────────────

-- where the writer accepts what was unfolded; so too of a line with a refused column, by what stands in its place
pub written_again : (line : List ℕ) → Bytes line → refusal_of (reasons_again (sheet_of (unfolded line)) (numbers_of line)) ≡ None
    → ReadsAgain (sheet_of (unfolded line)) (numbers_of line)
unfolding numbers_of
written_again line bytes =
    let n = numbers_of line in
    record_back (sheet_of (unfolded line)) n.start n.end (strand_number n.strand) (phase_number n.phase)
    (unfolded_bytes line bytes)
    (position_le (column_text column.Start line)) (position_le (column_text column.End line))

-- ── by the promise of unfolding ───────────────────────────────────────────────────────────────

same_numbers : {a b : Numbers} {k l : ℕ} → ◌≡◌ {A = Result (Numbers × ℕ) WriteError} (Ok (a, k)) (Ok (b, l)) → a ≡ b
same_numbers {a} {b} {k} {l} e = let p : ◌≡◌ {A = Numbers × ℕ} (a, k) (b, l) = cc in ap (λ (p : Numbers × ℕ). p.0) p

module _ {line d d' : List ℕ} {n : Numbers} {k : ℕ} (u : Unfolds line d d' (Ok (n, k))) where
  -- where it is done, its answer has the line's numbers, and the bytes that it counts are the line's sheet
  done_unfolds : (refusal_of (unfold_reasons line) ≡ None) × (n ≡ numbers_of line) × (take k d' ≡ sheet_of (unfolded line))
  done_unfolds =
      let t = wrote_means u.wrote in
      (t.0, same_numbers u.same, rw (t.2, t.1) (take-append_seam (sheet_of (unfolded line)) (drop (length (sheet_of (unfolded line))) d)))

  -- the bytes that it answers for, written with the numbers that it answers
  pub unfolded_again : Bytes line
      → (refusal_of (reasons_again (take k d') n) ≡ refusal_of (reasons_left line))
      × (refusal_of (reasons_left line) ≡ None → ReadsAgain (take k d') n)
  unfolded_again bytes =
      let t = done_unfolds in
      let r = refused_again line bytes t.0 in
      rw (t.1, t.2) (r, λ none. written_again line bytes (r ∙ none))
