-- What unfolding and writing answer, as the refusal or the line that is written; and the answers of a text in a row. Assumes nothing.
use native.Mathlib.Omega.{arith}
use mathlib.Core.Path.{◌≡◌, refl, ap, ◌∙◌}
use Rattle.std.specs.Prelude.{ℕ, ◌-◌, ◌^◌, ◌≤◌, ◌<◌, ltb, Bool, true, false, Option, Some, None, Result, Ok, Err}
use Rattle.std.specs.Prelude.{List, [], ◌∷◌, ◌++◌, map, length, drop}
use lib.Seq.{take_at}
use borrow.Author.Tests.{le-ltb}
use Rattle.base_scan.specs.Part.{part}
use Rattle.base_refusals.specs.declared.Refusal.{Refusal}
use Rattle.base_buffer.specs.declared.WriteError.{WriteError}
use Rattle.base_buffer.specs.Answer.{Reason, refusal_of, error_number, answer, contents, Wrote}
use Rattle.base_buffer.specs.Laid.{Lays}
use Rattle.base_buffer.proofs.LaidLaws.{laid_start, lays_then}
use Rattle.write_decimals.specs.Decimal.{decimal}
use Rattle.write_decimals.proofs.DecimalLaws.{length_decimal}
use Rattle.read_judge.specs.declared.judging.Numbers.{Numbers}
use Rattle.read_judge.specs.Judge.{numbers_of, unfold_reasons}
use Rattle.read_record.specs.Unfold.{as_written, with_numbers, Unfolds}
use Rattle.read_lines.specs.Lines.{text}
use Rattle.read_lines.specs.Step.{fresh, line_steps}
use Rattle.read_lines.proofs.StepLaws.{lines_met}
use Rattle.read_tokens.specs.Tokens.{strand_number, phase_number}
use Rattle.write_measure.specs.Record.{record_reasons, record_line}
use Rattle.program_rewrite.specs.Rewrite.{room, sheet_from, line_again, refusal, answer_for, refused_or, written_again, record_again}
use Rattle.program_rewrite.specs.Rewrite.{line_rewritten, rewritten}

-- ── a refusal ─────────────────────────────────────────────────────────────────────────────────

-- the text that a buffer starts with
start_is : (text d : List ℕ) → part 0 (length text) (text ++ drop (length text) d) ≡ text
start_is text d = take_at text (drop (length text) d) (length text - 0) (omega arith)

-- a refusal, laid text by text
pub refused : (n : ℕ) {d d₁ d₂ : List ℕ} {at r : ℕ} → n < 2 ^ 64 → length d ≡ room → Lays (33 ∷ 32 ∷ []) d 0 d₁ at
    → Lays (decimal n) d₁ at d₂ r
    → part 0 r d₂ ≡ refusal n
refused n {d} h l p q =
    let w = lays_then p q in
    let k : length (refusal n) ≤ length d = omega (arith, length_decimal n h) in
    let e : _ ≡ length (refusal n) = w.end ∙ omega arith in
    rw (e, w.left, laid_start (refusal n) d k) (start_is (refusal n) d)

-- ── what a writer answers ─────────────────────────────────────────────────────────────────────

-- what is written by the answer of a writer and its buffer: what is made of its text, or its refusal
abbrev by_writer : (List ℕ → List ℕ) → List ℕ → Result ℕ WriteError → List ℕ
by_writer made d (Ok k) = made (part 0 k d)
by_writer made d (Err e) = refusal (error_number e)

wrote_by : (reasons : List Reason) (text : List ℕ) (made : List ℕ → List ℕ) {d d' : List ℕ} {r : Result ℕ WriteError}
    → Wrote reasons text d d' r → length d ≡ room → by_writer made d' r ≡ refused_or (answer_for reasons text) (made text)
unfolding answer contents
wrote_by reasons text made {d} w l = rw (w.left, w.result, l) (go (refusal_of reasons) (ltb room (length text)))
  where
    go : (o : Option Refusal) (long : Bool)
        → by_writer made (contents (answer o long (length text)) text d) (answer o long (length text))
        ≡ refused_or (answer o long (length text)) (made text)
    go (Some r) long = refl
    go None true = refl
    go None false = ap made (start_is text d)

-- what is written for a sheet and its numbers; strand and phase go to the writer as the numbers that they stand for
pub writes : (sheet : List ℕ) (n : Numbers) {a b : ℕ} {d d' : List ℕ} {r k : Result ℕ WriteError} → a ≡ strand_number n.strand
    → b ≡ phase_number n.phase
    → Wrote (record_reasons sheet n.start n.end a b) (record_line sheet n.start n.end a b) d d' r → length d ≡ room → r ≡ k
    → by_writer (λ line. line) d' k ≡ written_again sheet n
unfolding written_again
writes sheet n s p w l e = rw (← e) (wrote_by _ (line_again sheet n) (λ line. line) (rw (s, p) at w) l)

-- what is written for a record, by unfolding's answer and the sheet buffer
abbrev by_unfolding : List ℕ → Result (Numbers × ℕ) WriteError → List ℕ
by_unfolding d (Ok (n, k)) = written_again (part 0 k d) n
by_unfolding d (Err e) = refusal (error_number e)

-- which is what the writer of its sheet answered, and the numbers beside it
unfolding_wrote : (n : Numbers) (d : List ℕ) (w : Result ℕ WriteError)
    → by_unfolding d (with_numbers n w) ≡ by_writer (λ sheet. written_again sheet n) d w
unfolding_wrote n d (Ok k) = refl
unfolding_wrote n d (Err e) = refl

pub unfolds : {s d d' : List ℕ} {r k : Result (Numbers × ℕ) WriteError} → Unfolds s d d' r → length d ≡ room → r ≡ k
    → by_unfolding d' k ≡ record_again s
unfolding record_again
unfolds {s} {d} {d'} {r} p l e =
    let n = numbers_of s in
    rw (← e)
    (ap (by_unfolding d') p.same ∙ unfolding_wrote n d' (as_written r)
    ∙ wrote_by (unfold_reasons s) (sheet_from s) (λ sheet. written_again sheet n) p.wrote l)

-- ── a whole text ──────────────────────────────────────────────────────────────────────────────

-- the answers for the lines that steps from the start hand out, each with a line feed, are the whole output
pub turns : (s : List ℕ) → length s ≤ room → text (map line_rewritten (line_steps (length s) s fresh)) ≡ rewritten s
unfolding rewritten
turns s h = rw (le-ltb room (length s) h, lines_met (length s) s fresh (omega arith))
