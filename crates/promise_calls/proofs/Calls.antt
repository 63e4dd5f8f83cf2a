-- Each call does what specs/Calls.antt says: that is its contract, which its code meets. Assumes nothing.
use mathlib.Core.Path.{◌≡◌, ap₂}
use Prim.Native.Nat.{ℕ}
use mathlib.Core.List.{List}
use denote.Ref.{Bor}
use Rattle.base_buffer.proofs.AnswerLaws.{wrote_one}
use Rattle.read_walker.specs.declared.Attributes.{Attributes}
use Rattle.read_record.proofs.UnfoldLaws.{unfolds_one}
use Rattle.write_decimals.proofs as write_decimals
use Rattle.percent_decode.proofs as percent_decode
use Rattle.percent_encode.proofs as percent_encode
use Rattle.read_lines.proofs as read_lines
use Rattle.read_parts.proofs as read_parts
use Rattle.read_parts.proofs.CallLaws.{leaves_one}
use Rattle.read_kind.proofs as read_kind
use Rattle.read_tokens.proofs as read_tokens
use Rattle.read_columns.proofs as read_columns
use Rattle.read_fields.proofs as read_fields
use Rattle.read_values.proofs as read_values
use Rattle.read_attributes.proofs as read_attributes
use Rattle.read_lookup.proofs as read_lookup
use Rattle.read_walker.proofs as read_walker
use Rattle.read_version.proofs as read_version
use Rattle.read_directives.proofs as read_directives
use Rattle.read_judge.proofs as read_judge
use Rattle.read_record.proofs as read_record
use Rattle.read_verdict.proofs as read_verdict
use Rattle.read_report.proofs as read_report
use Rattle.write_comment.proofs as write_comment
use Rattle.write_directive.proofs as write_directive
use Rattle.write_measure.proofs as write_measure
use Rattle.write_record.proofs as write_record
use Rattle.promise_calls.specs.Calls.{Calls}
use Rattle.promise_calls.proofs.DoesLaws.{told, follows}

-- a walker is its two fields
abbrev walker : Bor (List ℕ) → ℕ → Attributes
walker column at = record { column = column; at = at }

pub calls : Calls
calls =
    record {
      cursor = told (λ M. read_lines.Cursor.new.Met.met);
      past_blank = told (λ M. read_lines.past_blank.Met.met);
      next_line = told (λ M. read_lines.next_line.Met.met);
      state = told (λ M. read_parts.state.State.new.Met.met);
      take_part = record { does = λ M. read_parts.take_part.Met.met; one = leaves_one };
      end_parts = record { does = λ M. read_parts.end_parts.Met.met; one = leaves_one };
      kind_of = told (λ M. read_kind.kind_of.Met.met);
      comment_of = told (λ M. read_kind.comment_of.Met.met);
      directive_of = told (λ M. read_kind.directive_of.Met.met);
      index = told (λ M. read_columns.index.Met.met);
      column_at = told (λ M. read_columns.column_at.Met.met);
      reference_sequence_name = record { does = λ M. read_fields.reference_sequence_name.Met.met; one = wrote_one };
      source = record { does = λ M. read_fields.source.Met.met; one = wrote_one };
      ty = record { does = λ M. read_fields.ty.Met.met; one = wrote_one };
      position_of = told (λ M. read_tokens.position_of.Met.met);
      strand_of = told (λ M. read_tokens.strand_of.Met.met);
      phase_of = told (λ M. read_tokens.phase_of.Met.met);
      start_at = told (λ M. read_fields.start_at.Met.met);
      end_at = told (λ M. read_fields.end_at.Met.met);
      score_at = told (λ M. read_fields.score_at.Met.met);
      strand_at = told (λ M. read_fields.strand_at.Met.met);
      phase_at = told (λ M. read_fields.phase_at.Met.met);
      record_of = told (λ M. read_fields.record_of.Met.met);
      is_empty = told (λ M. read_attributes.is_empty.Met.met);
      next_field = told (λ M. read_attributes.next_field.Met.met);
      value_cursor = told (λ M. read_values.ValueCursor.new.Met.met);
      next_value = told (λ M. read_values.next_value.Met.met);
      find_tag = told (λ M. read_lookup.find_tag.Met.met);
      value_or = told (λ M. read_lookup.value_or.Met.met);
      walk_over = follows (λ _ (column, _) left r. (r.column ≡ column) × (r.at ≡ 0)) (λ _ a left r p. ap₂ walker p.0 p.1)
          (λ M. read_walker.Attributes.walk_over.Met.met);
      next = told (λ M. read_walker.Attributes.next.Met.met);
      moved = follows (λ _ (walker, (at, _)) left r. (r.column ≡ walker.column) × (r.at ≡ at)) (λ _ a left r p. ap₂ walker p.0 p.1)
          (λ M. read_walker.Attributes.moved.Met.met);
      get = told (λ M. read_walker.Attributes.get.Met.met);
      first_field = told (λ M. read_walker.first_field.Met.met);
      decode = record { does = λ M. percent_decode.decode.Met.met; one = wrote_one };
      encode = record { does = λ M. percent_encode.encode.Met.met; one = wrote_one };
      parse_gff_version = told (λ M. read_version.parse_gff_version.Met.met);
      parse_sequence_region = told (λ M. read_directives.parse_sequence_region.Met.met);
      parse_genome_build = told (λ M. read_directives.parse_genome_build.Met.met);
      write_decimal = record { does = λ M. write_decimals.write_decimal.Met.met; one = wrote_one };
      measure = told (λ M. write_measure.measure.Met.met);
      refusal = told (λ M. write_measure.refusal.Met.met);
      write_record = record { does = λ M. write_record.write_record.Met.met; one = wrote_one };
      write_directive = record { does = λ M. write_directive.write_directive.Met.met; one = wrote_one };
      write_comment = record { does = λ M. write_comment.write_comment.Met.met; one = wrote_one };
      judge = told (λ M. read_judge.judge.Met.met);
      judge_numbers = told (λ M. read_judge.judge_numbers.Met.met);
      admit = told (λ M. read_judge.admit.Met.met);
      survey = told (λ M. read_judge.survey.Met.met);
      «unfold» = record { does = λ M. read_record.unfold.Met.met; one = unfolds_one };
      verdict_of = told (λ M. read_verdict.verdict_of.Met.met);
      report_of = told (λ M. read_report.report_of.Met.met);
    }
