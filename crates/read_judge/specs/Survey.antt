-- What admitting and surveying a line answer, before it is judged or laid. Assumes nothing: these are definitions.
use Rattle.std.specs.Prelude.{ℕ, Result, List, length}
use Rattle.base_refusals.specs.declared.Refusal.{Refusal}
use Rattle.base_buffer.specs.Answer.{refusal_of, unless}
use Rattle.read_columns.specs.declared.bounds.Bounds.{Bounds}
use Rattle.read_columns.specs.Columns.{ends}
use Rattle.sheet_form.specs.Sheet.{sheet_of}
use Rattle.read_judge.specs.declared.judging.Numbers.{Numbers}
use Rattle.read_judge.specs.Judge.{unfolded, numbers_of, unfold_reasons}

-- the numbers and the bounds of a line, if nothing refuses it
abbrev pub admitted : List ℕ → Result (Numbers × Bounds) Refusal
admitted s = unless (refusal_of (unfold_reasons s)) (numbers_of s, ends s)

-- and the length of the sheet besides
abbrev pub surveyed : List ℕ → Result (Numbers × Bounds × ℕ) Refusal
surveyed s = unless (refusal_of (unfold_reasons s)) (numbers_of s, ends s, length (sheet_of (unfolded s)))
