-- A line judged and unfolded as C has it, a case at a time (RULES 16). Assumes nothing: these are definitions.
use Rattle.std.specs.Prelude.{ℕ, Result, Ok, Err, List}
use Rattle.base_refusals.specs.declared.Refusal.{Refusal}
use Rattle.base_buffer.specs.declared.WriteError.{WriteError}
use Rattle.base_buffer.specs.declared.WriteError.TheVariants.{Refused}
use Rattle.base_buffer.specs.Answer.{number, needed}
use Rattle.read_tokens.specs.Tokens.{strand_number, phase_number}
use Rattle.read_judge.specs.declared.judging.Numbers.{Numbers}
use Rattle.read_record.specs.Unfold.{Unfolds}
use Rattle.c_answers.specs.Answers.{AsC}
use Rattle.c_unfold.specs.declared.Gff3Unfolded.{Gff3Unfolded}

-- what a writer of the sheet answers that wrote nothing, with no numbers beside it
abbrev pub c_refused : WriteError → Gff3Unfolded
c_refused e = record { refused = number (Err e); length = needed (Err e); start = 0; end = 0; strand = 0; phase = 0 }

abbrev pub c_numbers : Numbers → ℕ → Gff3Unfolded
c_numbers n length =
    record {
      refused = 0;
      length = length;
      start = n.start;
      end = n.end;
      strand = strand_number n.strand;
      phase = phase_number n.phase;
    }

abbrev pub c_judged : Result (Numbers × ℕ) Refusal → Gff3Unfolded
c_judged (Ok (numbers, length)) = c_numbers numbers length
c_judged (Err r) = c_refused (Refused r)

abbrev pub c_unfolded : Result (Numbers × ℕ) WriteError → Gff3Unfolded
c_unfolded (Ok (numbers, length)) = c_numbers numbers length
c_unfolded (Err e) = c_refused e

-- what unfolding a line s may give, d being the buffer before and d' after
abbrev pub CUnfolds : List ℕ → List ℕ → List ℕ → Gff3Unfolded → Type 0
CUnfolds s d d' = AsC c_unfolded (Unfolds s d d')
