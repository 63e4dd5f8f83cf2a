-- Unfolding, RULES 9.3, 11.2: it turns a line into a sheet and numbers, and takes it as a record without a look at its kind. Its
-- refusals, in order: 24, 1, 2 (start, end), 17, 3, 4, 5, which are those of `read_judge`, and 22. Assumes nothing: these are definitions.
use Rattle.std.specs.Prelude.{ℕ, ◌≡◌, Result, Ok, Err, List}
use Rattle.base_buffer.specs.declared.WriteError.{WriteError}
use Rattle.base_buffer.specs.Answer.{Wrote}
use Rattle.sheet_form.specs.Sheet.{sheet_of}
use Rattle.read_judge.specs.declared.judging.Numbers.{Numbers}
use Rattle.read_judge.specs.Judge.{unfolded, numbers_of, unfold_reasons}

-- what a writer of the sheet would answer: the numbers are left out
abbrev pub as_written : Result (Numbers × ℕ) WriteError → Result ℕ WriteError
as_written (Ok (numbers, n)) = Ok n
as_written (Err e) = Err e

-- and with the numbers, which stand beside a sheet that was written and nowhere else
abbrev pub with_numbers : Numbers → Result ℕ WriteError → Result (Numbers × ℕ) WriteError
with_numbers numbers (Ok n) = Ok (numbers, n)
with_numbers numbers (Err e) = Err e

-- unfolding a line s writes its sheet, d being the buffer before and d' after, and answers the line's numbers with it
pub record Unfolds (s d d' : List ℕ) (r : Result (Numbers × ℕ) WriteError) : Type 0 where
  pub wrote : Wrote (unfold_reasons s) (sheet_of (unfolded s)) d d' (as_written r)
  pub same : r ≡ with_numbers (numbers_of s) (as_written r)
