-- A record read at once as C has it, a case at a time (RULES 16). Assumes nothing: these are definitions.
use Rattle.std.specs.Prelude.{ℕ, Option, None, Some, Result, Ok, Err}
use Rattle.base_scan.specs.declared.place.Place.{Place}
use Rattle.base_refusals.specs.declared.Refusal.{Refusal}
use Rattle.base_refusals.specs.Refusal.{number}
use Rattle.read_tokens.specs.Tokens.{strand_number, phase_number}
use Rattle.read_fields.specs.declared.record.Record.{Record}
use Rattle.c_answers.specs.Answers.{c_bounds, no_bounds}
use Rattle.c_record.specs.declared.Gff3RecordFields.{Gff3RecordFields}

-- the score in it: 1 where there is none, else where the token stands
abbrev pub score_missing : Option Place → ℕ
score_missing None = 1
score_missing (Some place) = 0

abbrev pub score_start : Option Place → ℕ
score_start None = 0
score_start (Some place) = place.start

abbrev pub score_end : Option Place → ℕ
score_end None = 0
score_end (Some place) = place.end

abbrev pub c_record : Result Record Refusal → Gff3RecordFields
c_record (Ok r) =
    record {
      refused = 0;
      bounds = c_bounds r.bounds;
      start = r.start;
      end = r.end;
      score_missing = score_missing r.score;
      score_start = score_start r.score;
      score_end = score_end r.score;
      strand = strand_number r.strand;
      phase = phase_number r.phase;
    }
c_record (Err r) =
    record {
      refused = number r;
      bounds = no_bounds;
      start = 0;
      end = 0;
      score_missing = 0;
      score_start = 0;
      score_end = 0;
      strand = 0;
      phase = 0;
    }
