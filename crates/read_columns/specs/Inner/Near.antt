-- The ends of a line's columns by the digits of a mask. Assumes nothing: these are definitions.
use Rattle.std.specs.Prelude.{ℕ, zero, suc, ◌+◌, ◌-◌, bit_and}
use Rattle.std.specs.Int.Count.{count_trailing_zeros}
use Rattle.read_columns.specs.declared.bounds.Bounds.{Bounds}

-- a mask without its lowest n digits: what a number and the one below it both have is the number without its lowest
unfoldable pub lowered : ℕ → ℕ → ℕ
lowered zero m = m
lowered (suc n) m = bit_and (lowered n m) (lowered n m - 1)

-- one past the place of its digit number n, from the lowest as number 0; 65 where it has fewer
abbrev pub past_digit : ℕ → ℕ → ℕ
past_digit n m = count_trailing_zeros 64 (lowered n m) + 1

-- one past each of the eight lowest
abbrev pub near_ends : ℕ → Bounds
near_ends m =
    record {
      reference_sequence_name_end = past_digit 0 m;
      source_end = past_digit 1 m;
      type_end = past_digit 2 m;
      start_end = past_digit 3 m;
      end_end = past_digit 4 m;
      score_end = past_digit 5 m;
      strand_end = past_digit 6 m;
      phase_end = past_digit 7 m;
    }
