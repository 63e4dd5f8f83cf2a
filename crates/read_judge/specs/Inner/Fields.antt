-- What the fields of a line that has its columns come to. Assumes nothing: these are definitions.
use Rattle.std.specs.Prelude.{ℕ, Result, List}
use Rattle.base_refusals.specs.declared.Refusal.{Refusal}
use Rattle.base_buffer.specs.Answer.{refusal_of, unless}
use Rattle.read_columns.specs.declared.bounds.Bounds.{Bounds}
use Rattle.read_columns.specs.Columns.{ends}
use Rattle.read_fields.specs.declared.record.Record.{Record}
use Rattle.read_judge.specs.declared.judging.Numbers.{Numbers}
use Rattle.read_judge.specs.Judge.{numbers_of, middle_reasons, field_reasons}

-- the numbers of a record that was read
abbrev pub numbers_in : Record → Numbers
numbers_in r = record { start = r.start; end = r.end; strand = r.strand; phase = r.phase }

-- columns 4 to 8 of a line that has its columns
abbrev pub middle_of : List ℕ → Result Numbers Refusal
middle_of s = unless (refusal_of (middle_reasons s)) (numbers_of s)

-- the same with the bounds, where column 9 may refuse them too
abbrev pub admit_fields : List ℕ → Result (Numbers × Bounds) Refusal
admit_fields s = unless (refusal_of (field_reasons s)) (numbers_of s, ends s)
