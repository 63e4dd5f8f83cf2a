-- A record read at once, as judging has it: the refusals are the same ones in the same order, and so are the numbers. Assumes nothing.
use mathlib.Core.Path.{◌≡◌, refl, sym, ap, ◌∙◌}
use Rattle.std.specs.Prelude.{ok_or, Bool, true, false, cond, not, ◌||◌, is_err, Option, Some, None, Result, Ok, Err, List, [], ◌∷◌, ℕ}
use Rattle.base_scan.specs.declared.place.Place.{Place}
use Rattle.base_words.specs.Same.{is_dot}
use Rattle.base_refusals.specs.declared.Refusal.{Refusal}
use Rattle.base_refusals.specs.declared.Refusal.TheVariants as refusal
use Rattle.base_buffer.specs.Answer.{◌when◌, refusal_of, unless}
use Rattle.read_numbers.specs.Number as numbers
use Rattle.read_tokens.specs.declared.strand.Strand.{Strand}
use Rattle.read_tokens.specs.declared.strand.Strand.TheVariants as strand
use Rattle.read_tokens.specs.declared.phase.Phase.{Phase}
use Rattle.read_tokens.specs.declared.phase.Phase.TheVariants as phase
use Rattle.read_tokens.specs.Tokens.{position_of, strand_of, phase_of}
use Rattle.read_tokens.proofs.TokensLaws.{strand_three, phase_four}
use Rattle.read_score.specs.Score.{is_score}
use Rattle.read_columns.specs.declared.bounds.Bounds.{Bounds}
use Rattle.read_columns.specs.declared.column.Column.TheVariants as column
use Rattle.read_columns.specs.Columns.{ends, has_columns, column_text, column_place}
use Rattle.read_columns.proofs.ColumnsLaws.{indexed_at}
use Rattle.read_fields.specs.declared.record.Record.{Record}
use Rattle.read_fields.specs.Fields.{score_of, together, record_of}
use Rattle.read_fields.proofs.RecordLaws.{record_none, record_some, told}
use Rattle.read_judge.specs.declared.judging.Numbers.{Numbers}
use Rattle.read_judge.specs.Judge.{or_else, numbers_of, field_reasons}
use Rattle.read_judge.specs.Inner.Fields.{numbers_in, middle_of}
use Rattle.read_judge.proofs.SurveyLaws.{fields_by}

abbrev numbers_by : Result Record Refusal → Result Numbers Refusal
numbers_by (Ok r) = Ok (numbers_in r)
numbers_by (Err r) = Err r

-- five answers: the first refusal, or the numbers
module _ (b : Bounds) (place : Place) where
  agree : (x y : Option ℕ) (is_dot is_score : Bool) (t : Result Strand Refusal) (p : Result Phase Refusal)
      → ((r : Refusal) → t ≡ Err r → r ≡ refusal.Strand) → ((r : Refusal) → p ≡ Err r → r ≡ refusal.Phase)
      → numbers_by (together b (ok_or x refusal.Position) (ok_or y refusal.Position)
      (cond is_dot (Ok None) (cond is_score (Ok (Some place)) (Err refusal.Score))) t p)
      ≡ unless
      (refusal_of ((refusal.Position when is_err (ok_or x refusal.Position)) ∷ (refusal.Position when is_err (ok_or y refusal.Position)) ∷ (refusal.Score when not (is_dot || is_score)) ∷ (refusal.Strand when is_err t) ∷ (refusal.Phase when is_err p) ∷ []))
      (record {
        start = or_else (ok_or x refusal.Position) 0;
        end = or_else (ok_or y refusal.Position) 0;
        strand = or_else t strand.None;
        phase = or_else p phase.None;
      })
  unfolding unless
  agree None y d c t p h k = refl
  agree (Some n) None d c t p h k = refl
  agree (Some n) (Some m) false false t p h k = refl
  agree (Some n) (Some m) true c (Err i) p h k = ap Err (h i refl)
  agree (Some n) (Some m) false true (Err i) p h k = ap Err (h i refl)
  agree (Some n) (Some m) true c (Ok t) (Err i) h k = ap Err (k i refl)
  agree (Some n) (Some m) false true (Ok t) (Err i) h k = ap Err (k i refl)
  agree (Some n) (Some m) true c (Ok t) (Ok p) h k = refl
  agree (Some n) (Some m) false true (Ok t) (Ok p) h k = refl

module _ (s : List ℕ) where
  -- columns 4 to 8 of a line that has its columns
  middle_by : has_columns s ≡ true → numbers_by (record_of s) ≡ middle_of s
  unfolding position_of score_of numbers_of
  middle_by e =
      ap numbers_by (record_some s e)
      ∙ agree (ends s) (column_place column.Score s) (numbers.position (column_text column.Start s))
      (numbers.position (column_text column.End s)) (is_dot (column_text column.Score s)) (is_score (column_text column.Score s))
      (strand_of (column_text column.Strand s)) (phase_of (column_text column.Phase s)) (λ r. strand_three (column_text column.Strand s))
      (λ r. phase_four (column_text column.Phase s))

  -- where it is read
  pub record Read (r : Record) : Type 0 where
    pub columns : has_columns s ≡ true
    pub bounds_are : r.bounds ≡ ends s
    pub middle : middle_of s ≡ Ok (numbers_in r)

  pub read : {r : Record} → record_of s ≡ Ok r → Read r
  read e =
      let i = indexed_at s (told s e).indexed_is in
      record { columns = i.0; bounds_are = i.1; middle = sym (middle_by i.0) ∙ ap numbers_by e }

  -- where it is refused, so is any answer by the numbers
  pub read_refused : {A : Type 0} (answer : Numbers → A) {r : Refusal} → record_of s ≡ Err r
      → Err r ≡ unless (refusal_of ((refusal.Columns when not (has_columns s)) ∷ field_reasons s)) (answer (numbers_of s))
  unfolding unless
  read_refused answer {r} e = go (has_columns s) refl
    where
      go : (t : Bool) → has_columns s ≡ t
          → Err r ≡ unless (refusal_of ((refusal.Columns when not t) ∷ field_reasons s)) (answer (numbers_of s))
      go true h = fields_by answer s (sym (middle_by h) ∙ ap numbers_by e)
      go false h =
          let same : ◌≡◌ {A = Result Record Refusal} (Err r) (Err refusal.Columns) = sym e ∙ record_none s h in
          let one : r ≡ refusal.Columns = cc in rw one refl
