-- Cursors, bounds, positions and the answers of writers as C has them, a case at a time (RULES 16). Assumes nothing: these are definitions.
use Rattle.std.specs.Prelude.{ℕ, min, ◌≡◌, List, length, Result, Ok, Err}
use Rattle.base_refusals.specs.declared.Refusal.{Refusal}
use Rattle.base_refusals.specs.Refusal as refusal
use Rattle.base_buffer.specs.declared.WriteError.{WriteError}
use Rattle.base_buffer.specs.Answer.{Reason, number, needed, Wrote}
use Rattle.read_columns.specs.declared.bounds.Bounds.{Bounds}
use Rattle.c_answers.specs.declared.Gff3Bounds.{Gff3Bounds}
use Rattle.c_answers.specs.declared.Gff3Number.{Gff3Number}
use Rattle.c_answers.specs.declared.Gff3Written.{Gff3Written}

-- a cursor as it counts: beyond the text it is at the end. A walk that is done or refused answers this one (RULES 16.2)
abbrev pub clipped : List ℕ → ℕ → ℕ
clipped s at = min at (length s)

abbrev pub bounds_of_c : Gff3Bounds → Bounds
bounds_of_c b =
    record {
      reference_sequence_name_end = b.reference_sequence_name_end;
      source_end = b.source_end;
      type_end = b.type_end;
      start_end = b.start_end;
      end_end = b.end_end;
      score_end = b.score_end;
      strand_end = b.strand_end;
      phase_end = b.phase_end;
    }

-- and those that C gets; 0 in place of each where there are none
abbrev pub c_bounds : Bounds → Gff3Bounds
c_bounds b =
    record {
      reference_sequence_name_end = b.reference_sequence_name_end;
      source_end = b.source_end;
      type_end = b.type_end;
      start_end = b.start_end;
      end_end = b.end_end;
      score_end = b.score_end;
      strand_end = b.strand_end;
      phase_end = b.phase_end;
    }

abbrev pub no_bounds : Gff3Bounds
no_bounds =
    record {
      reference_sequence_name_end = 0;
      source_end = 0;
      type_end = 0;
      start_end = 0;
      end_end = 0;
      score_end = 0;
      strand_end = 0;
      phase_end = 0;
    }

-- the refusal's number, or 0, and a position
abbrev pub c_position : Result ℕ Refusal → Gff3Number
c_position (Ok n) = record { refused = 0; value = n }
c_position (Err r) = record { refused = refusal.number r; value = 0 }

-- the refusal's number, or 0, and a length: 22 carries the length needed
abbrev pub c_written : Result ℕ WriteError → Gff3Written
c_written w = record { refused = number w; length = needed w }

-- the library's promise P, as C has it: r is some answer that P allows, in C's form
pub record AsC {A B : Type 0} (in_c : A → B) (P : A → Type 0) (r : B) : Type 0 where
  pub answer : A
  pub allowed : P answer
  pub same : r ≡ in_c answer

-- so of a writer of a text, d being the buffer before and d' after
abbrev pub CWrote : List Reason → List ℕ → List ℕ → List ℕ → Gff3Written → Type 0
CWrote reasons text d d' = AsC c_written (Wrote reasons text d d')
