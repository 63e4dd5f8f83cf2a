-- How judging ends. Assumes nothing.
use mathlib.Core.Path.{◌≡◌, refl}
use Rattle.std.specs.Prelude.{Result, Ok, Err, List, ℕ, length}
use Rattle.base_refusals.specs.declared.Refusal.{Refusal}
use Rattle.base_buffer.specs.Answer.{refusal_of}
use Rattle.base_buffer.proofs.AnswerLaws.{unless_map}
use Rattle.read_columns.specs.declared.bounds.Bounds.{Bounds}
use Rattle.read_columns.specs.Columns.{ends}
use Rattle.sheet_form.specs.Sheet.{sheet_of}
use Rattle.read_judge.specs.declared.judging.Numbers.{Numbers}
use Rattle.read_judge.specs.Judge.{unfolded, numbers_of, unfold_reasons, judged}
use Rattle.read_judge.specs.Survey.{surveyed}

-- what a survey says of the verdict
abbrev judged_of : Result (Numbers × Bounds × ℕ) Refusal → Result (Numbers × ℕ) Refusal
judged_of (Ok (numbers, b, l)) = Ok (numbers, l)
judged_of (Err r) = Err r

pub judged_by : (s : List ℕ) {r : Result (Numbers × Bounds × ℕ) Refusal} → surveyed s ≡ r → judged_of r ≡ judged s
judged_by s e =
    rw (← e) (unless_map judged_of (λ r. refl) (refusal_of (unfold_reasons s)) (numbers_of s, ends s, length (sheet_of (unfolded s))) refl)
