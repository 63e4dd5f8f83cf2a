-- A line that is unfolded, and written again from its own sheet and numbers: RULES 9.5. Assumes nothing: these are definitions.
use Rattle.std.specs.Prelude.{ℕ, ◌&&◌, List, [], ◌∷◌, eqb, ltb, length}
use Rattle.base_lists.specs.Limits.{most_text}
use Rattle.base_refusals.specs.declared.Refusal.TheVariants as refusal
use Rattle.base_buffer.specs.Answer.{Reason, ◌when◌}
use Rattle.read_tokens.specs.Tokens.{strand_number, phase_number}
use Rattle.sheet_form.specs.Sheet.{sheet_of}
use Rattle.write_measure.specs.Record.{is_cds, record_reasons, record_line}
use Rattle.read_judge.specs.declared.judging.Numbers.{Numbers}
use Rattle.read_judge.specs.Judge.{unfolded, numbers_of}
use Rattle.promise_roundtrip.specs.Reading.{ReadsRecord}

-- the writer's reasons to refuse a sheet and the numbers that unfolding answers beside it
abbrev pub reasons_again : List ℕ → Numbers → List Reason
reasons_again sheet n = record_reasons sheet n.start n.end (strand_number n.strand) (phase_number n.phase)

-- those that are left for what a line unfolds to: 24, its sheet is longer than the writer takes; 18, it is a `CDS` without a phase
abbrev pub reasons_left : List ℕ → List Reason
reasons_left line =
    (refusal.TooLong when ltb most_text (length (sheet_of (unfolded line))))
    ∷ (refusal.PhaseMissing when is_cds (unfolded line) && eqb (phase_number (numbers_of line).phase) 3)
    ∷ []

-- what is written of the sheet and the numbers reads back as them
abbrev pub ReadsAgain : List ℕ → Numbers → Type 0
ReadsAgain sheet n =
    let strand = strand_number n.strand in
    let phase = phase_number n.phase in
    ReadsRecord (record_line sheet n.start n.end strand phase) sheet n.start n.end strand phase
