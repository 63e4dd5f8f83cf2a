-- Each call in C does what specs/InC.antt says: that is its contract, which its code meets. Assumes nothing.
use Rattle.read_record.proofs.UnfoldLaws.{unfolds_one}
use Rattle.c_answers.proofs.AnswersLaws.{as_c_one, c_wrote_one}
use Rattle.read_parts.proofs.CallLaws.{leaves_one}
use Rattle.c_lines.proofs as c_lines
use Rattle.c_parts.proofs as c_parts
use Rattle.c_directives.proofs as c_directives
use Rattle.c_index.proofs as c_index
use Rattle.c_columns.proofs as c_columns
use Rattle.c_record.proofs as c_record
use Rattle.c_start.proofs as c_start
use Rattle.c_end.proofs as c_end
use Rattle.c_score.proofs as c_score
use Rattle.c_strand.proofs as c_strand
use Rattle.c_phase.proofs as c_phase
use Rattle.c_text.proofs as c_text
use Rattle.c_attributes.proofs as c_attributes
use Rattle.c_lookup.proofs as c_lookup
use Rattle.c_coding.proofs as c_coding
use Rattle.c_unfold.proofs as c_unfold
use Rattle.c_report.proofs as c_report
use Rattle.c_write.proofs as c_write
use Rattle.promise_calls.specs.InC.{InC}
use Rattle.promise_calls.proofs.DoesLaws.{told}

pub in_c : InC
in_c =
    record {
      gff3_next_line = told (λ M. c_lines.gff3_next_line.Met.met);
      gff3_kind = told (λ M. c_lines.gff3_kind.Met.met);
      gff3_comment = told (λ M. c_lines.gff3_comment.Met.met);
      gff3_directive = told (λ M. c_lines.gff3_directive.Met.met);
      gff3_take_part = record { does = λ M. c_parts.gff3_take_part.Met.met; one = as_c_one (λ _ _. leaves_one) };
      gff3_end_parts = record { does = λ M. c_parts.gff3_end_parts.Met.met; one = as_c_one (λ _ _. leaves_one) };
      gff3_index = told (λ M. c_index.gff3_index.Met.met);
      gff3_column = told (λ M. c_columns.gff3_column.Met.met);
      gff3_record = told (λ M. c_record.gff3_record.Met.met);
      gff3_text = record { does = λ M. c_text.gff3_text.Met.met; one = c_wrote_one };
      gff3_position = told (λ M. c_coding.gff3_position.Met.met);
      gff3_start = told (λ M. c_start.gff3_start.Met.met);
      gff3_end = told (λ M. c_end.gff3_end.Met.met);
      gff3_score = told (λ M. c_score.gff3_score.Met.met);
      gff3_strand = told (λ M. c_strand.gff3_strand.Met.met);
      gff3_phase = told (λ M. c_phase.gff3_phase.Met.met);
      gff3_no_attributes = told (λ M. c_attributes.gff3_no_attributes.Met.met);
      gff3_next_field = told (λ M. c_attributes.gff3_next_field.Met.met);
      gff3_next_value = told (λ M. c_attributes.gff3_next_value.Met.met);
      gff3_find_tag = told (λ M. c_lookup.gff3_find_tag.Met.met);
      gff3_decode = record { does = λ M. c_coding.gff3_decode.Met.met; one = c_wrote_one };
      gff3_encode = record { does = λ M. c_coding.gff3_encode.Met.met; one = c_wrote_one };
      gff3_version = told (λ M. c_directives.gff3_version.Met.met);
      gff3_region = told (λ M. c_directives.gff3_region.Met.met);
      gff3_build = told (λ M. c_directives.gff3_build.Met.met);
      gff3_write_record = record { does = λ M. c_write.gff3_write_record.Met.met; one = c_wrote_one };
      gff3_write_directive = record { does = λ M. c_write.gff3_write_directive.Met.met; one = c_wrote_one };
      gff3_write_comment = record { does = λ M. c_write.gff3_write_comment.Met.met; one = c_wrote_one };
      gff3_judge = told (λ M. c_unfold.gff3_judge.Met.met);
      gff3_unfold = record { does = λ M. c_unfold.gff3_unfold.Met.met; one = as_c_one (λ u v. unfolds_one) };
      gff3_report = told (λ M. c_report.gff3_report.Met.met);
    }
