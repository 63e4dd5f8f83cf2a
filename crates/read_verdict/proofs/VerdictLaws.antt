-- What a verdict says: the numbers of a record are positions, and a refusal is one of seven. Assumes nothing.
use mathlib.Core.Path.{◌≡◌, refl, sym, ap, ◌∙◌}
use mathlib.Core.Bool.{true≢false}
use Rattle.std.specs.Prelude.{ℕ, true, false, Option, Some, None, Result, Ok, Err, is_err, ok_or, List}
use Rattle.base_lists.specs.Bytes.{among}
use Rattle.base_refusals.specs.declared.Refusal.{Refusal}
use Rattle.base_refusals.specs.declared.Refusal.TheVariants as refusal
use Rattle.base_refusals.specs.Refusal.{number}
use Rattle.base_buffer.proofs.AnswerLaws.{first_among, none_of, unless_is, unless_not}
use Rattle.read_numbers.specs.Number.{position}
use Rattle.read_numbers.proofs.NumberLaws.{numeral_bounds}
use Rattle.read_tokens.specs.Tokens.{position_of}
use Rattle.read_columns.specs.declared.column.Column.TheVariants as column
use Rattle.read_columns.specs.Columns.{column_text}
use Rattle.read_kind.specs.declared.kind.Kind.{Kind}
use Rattle.read_kind.specs.declared.kind.Kind.TheVariants as kinds
use Rattle.read_kind.specs.Kind.{kind}
use Rattle.read_judge.specs.declared.judging.Numbers.{Numbers}
use Rattle.read_judge.specs.Judge.{or_else, numbers_of, unfold_reasons, judged, numbers_judged}
use Rattle.read_verdict.specs.declared.Verdict.{Verdict}
use Rattle.read_verdict.specs.declared.Verdict.TheVariants.{Record, Refused}
use Rattle.read_verdict.specs.Verdict.{by_judge, by_kind, verdict, refusals, Position, Sound}

-- ── positions ─────────────────────────────────────────────────────────────────────────────────

read_position : (s : List ℕ) → is_err (position_of s) ≡ false → Position (or_else (position_of s) 0)
unfolding position_of
read_position s e = go (position s) refl e
  where
    go : (n : Option ℕ) → position s ≡ n → is_err (ok_or n refusal.Position) ≡ false → Position (or_else (ok_or n refusal.Position) 0)
    go (Some n) h e = numeral_bounds s h
    go None h e = absurd (true≢false e)

-- ── a line ────────────────────────────────────────────────────────────────────────────────────

judge_sound : (s : List ℕ) (j : Result (Numbers × ℕ) Refusal) → judged s ≡ j → Sound (by_judge j)
unfolding numbers_of
judge_sound s (Ok (numbers, length)) e =
    let t = unless_is refl e in
    let same : numbers ≡ numbers_of s = sym (ap (λ (p : Numbers × ℕ). p.0) t.1) in
    let none = none_of (unfold_reasons s) t.0 in
    rw same
    (read_position (column_text column.Start s) none.1.1.0, read_position (column_text column.End s) none.1.1.1.0)
judge_sound s (Err r) e =
    first_among (λ r. among refusals (number r) ≡ true) (unfold_reasons s) (refl, (refl, (refl, (refl, (refl, (refl, (refl, (refl, tt))))))))
    (unless_not _ refl e)

kind_sound : (s : List ℕ) (k : Kind) → Sound (by_kind k s)
kind_sound s kinds.Directive = tt
kind_sound s kinds.Comment = tt
kind_sound s kinds.Record = judge_sound s (judged s) refl

pub sound : (s : List ℕ) → Sound (verdict s)
unfolding verdict
sound s = kind_sound s (kind s)

-- ── by the answers of two calls ───────────────────────────────────────────────────────────────

pub of_kind : (s : List ℕ) {k : Kind} → kind s ≡ k → by_kind k s ≡ verdict s
unfolding verdict
of_kind s e = rw (← e)

abbrev by_numbers : Result Numbers Refusal → Verdict
by_numbers (Ok numbers) = Record numbers
by_numbers (Err r) = Refused r

pub of_numbers : (s : List ℕ) {r : Result Numbers Refusal} → kind s ≡ kinds.Record → numbers_judged (judged s) ≡ r → by_numbers r ≡ verdict s
of_numbers s e h = rw (← h) (go (judged s)) ∙ of_kind s e
  where
    go : (j : Result (Numbers × ℕ) Refusal) → by_numbers (numbers_judged j) ≡ by_judge j
    go (Ok (numbers, length)) = refl
    go (Err r) = refl
