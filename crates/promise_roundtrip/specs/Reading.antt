-- What it means that a record reads back, RULES 9.4: its line has the item's kind and, given room, the same sheet and numbers. Assumes nothing: these are definitions.
use Rattle.std.specs.Prelude.{ℕ, ◌≤◌, ◌≡◌, Result, Ok, List, ◌++◌, drop}
use Rattle.std.proofs.Math.ListN.{length}
use Rattle.base_buffer.specs.declared.WriteError.{WriteError}
use Rattle.read_kind.specs.declared.kind.Kind.TheVariants.{Record}
use Rattle.read_kind.specs.Kind.{kind}
use Rattle.read_tokens.specs.Tokens.{strand_number, phase_number}
use Rattle.read_judge.specs.declared.judging.Numbers.{Numbers}
use Rattle.read_record.specs.Unfold.{Unfolds}

-- what goes beside a sheet, by the numbers of RULES 9.2
pub record AreNumbers (n : Numbers) (start end strand phase : ℕ) : Type 0 where
  pub same_start : n.start ≡ start
  pub same_end : n.end ≡ end
  pub same_strand : strand_number n.strand ≡ strand
  pub same_phase : phase_number n.phase ≡ phase

-- unfolding was done: it answers these numbers and the sheet's length, and the buffer, d before and d' after, begins with the sheet
pub record Gives (sheet : List ℕ) (start end strand phase : ℕ) (d d' : List ℕ) (r : Result (Numbers × ℕ) WriteError) : Type 0 where
  pub numbers : Numbers
  pub same_numbers : AreNumbers numbers start end strand phase
  pub answer : r ≡ Ok (numbers, length sheet)
  pub left : d' ≡ sheet ++ drop (length sheet) d

-- the line is a record, and whatever its unfolding may answer, given room, is this sheet and these numbers
pub record ReadsRecord (line sheet : List ℕ) (start end strand phase : ℕ) : Type 0 where
  pub is_record : kind line ≡ Record
  pub gives : (d d' : List ℕ) (r : Result (Numbers × ℕ) WriteError) → length sheet ≤ length d → Unfolds line d d' r → Gives sheet start end strand phase d d' r
