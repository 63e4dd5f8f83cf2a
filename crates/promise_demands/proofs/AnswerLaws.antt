-- What the promises of all calls have in common that are lent a buffer: each keeps demand 1. Assumes nothing.
use Prim.Native.Nat.{ℕ}
use mathlib.Core.Path.{◌≡◌, refl, ap, ◌∙◌}
use mathlib.Core.Logic.{◌≢◌}
use mathlib.Core.Bool.{Bool, cond}
use mathlib.Core.List.{List, [], ◌∷◌}
use lib.ListN.{length}
use Rattle.std.specs.Prelude.{None, Result, Ok, Err}
use Rattle.base_buffer.specs.declared.WriteError.{WriteError}
use Rattle.base_refusals.specs.declared.Refusal.TheVariants as refusal
use Rattle.base_buffer.specs.Answer.{Reason, ◌when◌, number, contents}
use Rattle.base_buffer.proofs.AnswerLaws.{wrote_one, number_answer}
use Rattle.sheet_form.specs.Sheet.{sheet_of}
use Rattle.read_judge.specs.declared.judging.Numbers.{Numbers}
use Rattle.read_judge.specs.Judge.{unfolded, numbers_of, unfold_reasons}
use Rattle.read_record.specs.Unfold.{as_written, with_numbers, Unfolds}
use Rattle.read_record.proofs.UnfoldLaws.{unfolds_one, wrote_unfolds}
use Rattle.read_parts.specs.declared.state.State.{State}
use Rattle.read_parts.specs.declared.Part.{Part}
use Rattle.read_parts.specs.State.{is_long, grown_hold, settled, settled_hold}
use Rattle.read_parts.specs.Calls.{came_refusal, refuses, Leaves, begun, unskipped, of_line, ends_long, take_part, take_reasons, TakesPart, ended, end_reasons, EndsParts}
use Rattle.read_parts.proofs.CallLaws.{leaves_one}
use Rattle.read_parts.proofs.ReasonLaws.{leaves_number, leaves_same, take_part_number, ended_number}
use Rattle.promise_demands.specs.Demand.{Answers, Writes, AnswersPart, fields}

-- ── writing ───────────────────────────────────────────────────────────────────────────────────

refused_same : (r : Result ℕ WriteError) (text d : List ℕ) → number r ≢ 0 → contents r text d ≡ d
unfolding contents
refused_same (Ok n) text d h = absurd (h refl)
refused_same (Err e) text d h = refl

pub writes : (reasons : List Reason) (text : List ℕ) → Writes reasons text
writes reasons text =
    record {
      some_answer = λ d. (_, _, record { result = refl; left = refl });
      one_answer = wrote_one;
      first_reason = λ w. ap number w.result ∙ number_answer _ _ _;
      unchanged = λ {d} {d'} {r} w refused. w.left ∙ refused_same r text d refused;
    }

-- ── unfolding ─────────────────────────────────────────────────────────────────────────────────

pub unfold_answers : (line : List ℕ)
    → Answers (λ r. number (as_written r)) (unfold_reasons line) (length (sheet_of (unfolded line))) (Unfolds line)
unfold_answers line =
    let sheet = writes (unfold_reasons line) (sheet_of (unfolded line)) in
    record {
      some_answer = λ d. let w = sheet.some_answer d in (w.0, with_numbers (numbers_of line) w.1, wrote_unfolds line w.1 w.2);
      one_answer = unfolds_one;
      first_reason = λ u. sheet.first_reason u.wrote;
      unchanged = λ u. sheet.unchanged u.wrote;
    }

pub no_fields : (r : Result (Numbers × ℕ) WriteError) → number (as_written r) ≢ 0 → fields r ≡ None
unfolding fields
no_fields (Ok (numbers, n)) h = absurd (h refl)
no_fields (Err e) h = refl

-- ── parts ─────────────────────────────────────────────────────────────────────────────────────

module _ (s : State) (answer : Part) (hold : List ℕ → List ℕ) (long : Bool) (number : came_refusal answer.came ≡ cond long 25 0) where
  parts_answers : AnswersPart (λ room. (refusal.Hold when refuses s.held room) ∷ (refusal.LineTooLong when long) ∷ []) (λ d. Leaves s d answer (hold d))
  parts_answers =
      record {
        some_answer = λ d. (_, _, record { result = refl; left = refl });
        one_answer = leaves_one;
        first_reason = leaves_number long number;
        unchanged = leaves_same long number;
      }

pub take_part_answers : (s : State) (p : List ℕ) → AnswersPart (take_reasons s p) (TakesPart s p)
take_part_answers s p =
    parts_answers s (take_part s p) (grown_hold (begun s p) (of_line (unskipped s p))) (ends_long s p) (take_part_number s p)

pub end_parts_answers : (s : State) → AnswersPart (end_reasons s) (EndsParts s)
end_parts_answers s =
    parts_answers s (ended (settled s)) (settled_hold s) (is_long (settled s).tail) (ended_number (settled s))
