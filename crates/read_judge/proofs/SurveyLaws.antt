-- What surveying answers, field by field, and what its answer says. Assumes nothing.
use native.Mathlib.Omega.{arith}
use borrow.Author.Tests.{ltb-false}
use mathlib.Core.Path.{◌≡◌, refl, sym, ap, ◌∙◌}
use Rattle.std.specs.Prelude.{Bool, true, false, cond, None, Some, Result, Ok, Err, List, [], ℕ, ◌+◌, ◌*◌, ◌≤◌, length}
use Rattle.base_lists.specs.Limits.{most_line}
use Rattle.base_words.specs.Same.{is_dot}
use Rattle.base_refusals.specs.declared.Refusal.{Refusal}
use Rattle.base_refusals.specs.declared.Refusal.TheVariants as refusal
use Rattle.base_refusals.specs.Refusal.{and_then}
use Rattle.base_buffer.specs.Answer.{refusal_of, unless}
use Rattle.base_buffer.proofs.AnswerLaws.{none_of, unless_append, unless_map, unless_is, unless_not}
use Rattle.read_columns.specs.declared.bounds.Bounds.{Bounds}
use Rattle.read_columns.specs.declared.column.Column.{Column}
use Rattle.read_columns.specs.declared.column.Column.TheVariants as column
use Rattle.read_columns.specs.Columns.{ends, column_place, column_text}
use Rattle.read_columns.proofs.ColumnsLaws.{text_short}
use Rattle.percent_coding.proofs.PercentLaws.{length_decoded}
use Rattle.read_attributes.specs.Attributes.{attributes, walk}
use Rattle.sheet_form.specs.Sheet.{sheet_of}
use Rattle.sheet_form.proofs.LengthLaws.{length_sheet}
use Rattle.read_judge.specs.declared.judging.Numbers.{Numbers}
use Rattle.read_judge.specs.Judge.{score_of_token, unfolded, numbers_of, stuck, middle_reasons, attributes_reasons}
use Rattle.read_judge.specs.Judge.{field_reasons, unfold_reasons, judged, numbers_judged}
use Rattle.read_judge.specs.Survey.{admitted, surveyed}
use Rattle.read_judge.specs.Inner.Fields.{middle_of}
use Rattle.read_judge.proofs.AttributesLaws.{rest, attributes_few}

-- ── the fields: columns 4 to 8, and then column 9 ─────────────────────────────────────────────

-- any answer by the numbers: columns 4 to 8 refuse it, and then column 9
module _ {A : Type 0} (answer : Numbers → A) (s : List ℕ) where
  pub fields_by : {m : Result Numbers Refusal} → middle_of s ≡ m
      → and_then m (λ numbers. unless (refusal_of (attributes_reasons s)) (answer numbers)) ≡ unless (refusal_of (field_reasons s)) (answer (numbers_of s))
  fields_by e = rw (← e) (sym (unless_append (middle_reasons s) (attributes_reasons s) (numbers_of s) answer))

  module _ {numbers : Numbers} (e : middle_of s ≡ Ok numbers) where
    pub stuck_refuses : stuck (attributes (walk (column_text column.Attributes s))) ≡ true
        → Err refusal.Attribute ≡ unless (refusal_of (field_reasons s)) (answer (numbers_of s))
    unfolding unless
    stuck_refuses h = rw (← fields_by e, h)

    -- no reason holds
    pub unstuck_answers : stuck (attributes (walk (column_text column.Attributes s))) ≡ false
        → Ok (answer numbers) ≡ unless (refusal_of (field_reasons s)) (answer (numbers_of s))
    unfolding unless
    unstuck_answers h = rw (← fields_by e, h)

-- ── how long a sheet is at most ───────────────────────────────────────────────────────────────

module _ (s : List ℕ) where
  column_short : (c : Column) → length (column_text c s) ≤ length s
  column_short c = text_short (column_place c s) s

  -- the attributes
  pub attributes_short : length (rest (walk (column_text column.Attributes s))) ≤ 6 + 6 * length s
  attributes_short = omega (arith, attributes_few (column_text column.Attributes s), column_short column.Attributes)

  score_short : (token : List ℕ) → length (score_of_token token) ≤ length token
  unfolding score_of_token
  score_short token = go (is_dot token)
    where
      go : (t : Bool) → length (cond t [] token) ≤ length token
      go true = omega arith
      go false = omega arith

  -- ten bytes of the sheet for each byte of the line, and the counts that every sheet has
  pub sheet_few : length (sheet_of (unfolded s)) ≤ 26 + 10 * length s
  unfolding unfolded
  sheet_few =
      let name = column_text column.ReferenceSequenceName s in
      let source = column_text column.Source s in
      let type = column_text column.Ty s in
      let score = column_text column.Score s in
      let col = column_text column.Attributes s in
      omega (
        arith,
        length_sheet (unfolded s),
        length_decoded name,
        length_decoded source,
        length_decoded type,
        score_short score,
        attributes_few col,
        column_short column.ReferenceSequenceName,
        column_short column.Source,
        column_short column.Ty,
        column_short column.Score,
        column_short column.Attributes,
      )

-- ── the numbers alone ─────────────────────────────────────────────────────────────────────────

abbrev pub numbers_admitted : Result (Numbers × Bounds) Refusal → Result Numbers Refusal
numbers_admitted (Ok (numbers, b)) = Ok numbers
numbers_admitted (Err r) = Err r

-- they are those of the judged line
pub admitted_judged : (s : List ℕ) → numbers_admitted (admitted s) ≡ numbers_judged (judged s)
admitted_judged s =
    let o = refusal_of (unfold_reasons s) in
    unless_map numbers_admitted (λ r. refl) o (numbers_of s, ends s) refl
    ∙ sym (unless_map numbers_judged (λ r. refl) o (numbers_of s, length (sheet_of (unfolded s))) refl)

-- ── what an answer says ───────────────────────────────────────────────────────────────────────

pub record Told (s : List ℕ) (numbers : Numbers) (b : Bounds) (l : ℕ) : Type 0 where
  pub no_reason : refusal_of (unfold_reasons s) ≡ None
  pub numbers_are : numbers ≡ numbers_of s
  pub bounds_are : b ≡ ends s
  pub length_is : l ≡ length (sheet_of (unfolded s))

pub told : (s : List ℕ) {numbers : Numbers} {b : Bounds} {l : ℕ} → surveyed s ≡ Ok (numbers, b, l) → Told s numbers b l
told s e =
    let t = unless_is refl e in
    let h = sym t.1 in
    record { no_reason = t.0; numbers_are = ap (λ p. p.0) h; bounds_are = ap (λ p. p.1) h; length_is = ap (λ p. p.2) h }

pub told_refused : (s : List ℕ) {r : Refusal} → surveyed s ≡ Err r → refusal_of (unfold_reasons s) ≡ Some r
told_refused s e = unless_not _ refl e

pub admitted_is : (s : List ℕ) {numbers : Numbers} {b : Bounds} → admitted s ≡ Ok (numbers, b)
    → (refusal_of (unfold_reasons s) ≡ None) × (numbers ≡ numbers_of s) × (b ≡ ends s)
admitted_is s e =
    let t = unless_is refl e in
    let h = sym t.1 in (t.0, ap (λ p. p.0) h, ap (λ p. p.1) h)

pub admitted_not : (s : List ℕ) {r : Refusal} → admitted s ≡ Err r → refusal_of (unfold_reasons s) ≡ Some r
admitted_not s e = unless_not _ refl e

-- surveying answers what is admitted, and the length of the sheet
module _ (s : List ℕ) where
  abbrev with_length : Result (Numbers × Bounds) Refusal → Result (Numbers × Bounds × ℕ) Refusal
  with_length (Ok (numbers, b)) = Ok (numbers, b, length (sheet_of (unfolded s)))
  with_length (Err r) = Err r

  pub survey_by : {a : Result (Numbers × Bounds) Refusal} → admitted s ≡ a → with_length a ≡ surveyed s
  survey_by e = rw (← e) (unless_map with_length (λ r. refl) (refusal_of (unfold_reasons s)) (numbers_of s, ends s) refl)

-- a line that nothing refuses is not too long
pub line_short : (s : List ℕ) → refusal_of (unfold_reasons s) ≡ None → length s ≤ most_line
line_short s e = ltb-false most_line (length s) (none_of (unfold_reasons s) e).0

-- the walk is not refused where no reason holds
pub unstuck : (s : List ℕ) → refusal_of (unfold_reasons s) ≡ None → stuck (attributes (walk (column_text column.Attributes s))) ≡ false
unstuck s e = (none_of (unfold_reasons s) e).1.1.1.1.1.1.1.0
