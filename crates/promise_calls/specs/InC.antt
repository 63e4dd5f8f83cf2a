-- The calls in C (RULES 16), each tied to the library's definition of its answer, in C's form, as in specs/Calls.antt. Assumes nothing:
-- these are definitions.
use Rattle.std.specs.Prelude.{[]}
use Rattle.base_lists.specs.Bit.{bit}
use Rattle.percent_coding.specs.Percent.{decoded, encoded}
use Rattle.percent_sets.specs.Sets.{escapes}
use Rattle.percent_encode.specs.Encode.{encode_reasons}
use Rattle.read_kind.specs.Kind.{kind, kind_number, comment_of, directive_of}
use Rattle.read_tokens.specs.Tokens.{position_of}
use Rattle.read_columns.specs.Columns.{indexed}
use Rattle.read_columns.specs.declared.column.Column.TheVariants as column
use Rattle.read_fields.specs.Fields.{position_at, score_at, strand_at, phase_at, record_of}
use Rattle.read_attributes.specs.Attributes.{is_empty}
use Rattle.read_lookup.specs.Lookup.{find_tag}
use Rattle.read_version.specs.GffVersion.{version_of}
use Rattle.read_directives.specs.GenomeBuild.{build_of}
use Rattle.read_directives.specs.SequenceRegion.{region_of}
use Rattle.read_judge.specs.Judge.{judged}
use Rattle.read_report.specs.Report.{morning}
use Rattle.write_comment.specs.Comment.{comment_reasons, comment_line}
use Rattle.write_directive.specs.Directive.{directive_reasons, directive_line}
use Rattle.write_measure.specs.Record.{record_reasons, record_line}
use Rattle.c_answers.specs.Answers.{bounds_of_c, c_position, CWrote}
use Rattle.c_lines.specs.Line.{c_next_line, c_comment, c_directive}
use Rattle.c_parts.specs.Part.{CTakesPart, CEndsParts}
use Rattle.c_directives.specs.Directive.{c_version, c_region, c_build}
use Rattle.c_index.specs.Index.{c_indexed}
use Rattle.c_columns.specs.Columns.{column_of_c, c_column_at, c_place}
use Rattle.c_record.specs.Record.{c_record}
use Rattle.c_score.specs.Score.{c_score}
use Rattle.c_strand.specs.Strand.{c_strand}
use Rattle.c_phase.specs.Phase.{c_phase}
use Rattle.c_text.specs.Text.{text_column_of_c, c_text_reasons, c_text}
use Rattle.c_attributes.specs.Attribute.{c_next_field, c_next_value}
use Rattle.c_lookup.specs.Lookup.{c_found}
use Rattle.c_coding.specs.Coding.{set_of_c}
use Rattle.c_unfold.specs.Sheet.{c_judged, CUnfolds}
use Rattle.c_report.specs.Report.{c_morning}
use Rattle.c_write.specs.Value.{value_of_c}
use Rattle.c_lines.specs.contracts as c_lines_contracts
use Rattle.c_parts.specs.contracts as c_parts_contracts
use Rattle.c_directives.specs.contracts as c_directives_contracts
use Rattle.c_index.specs.contracts as c_index_contracts
use Rattle.c_columns.specs.contracts as c_columns_contracts
use Rattle.c_record.specs.contracts as c_record_contracts
use Rattle.c_start.specs.contracts as c_start_contracts
use Rattle.c_end.specs.contracts as c_end_contracts
use Rattle.c_score.specs.contracts as c_score_contracts
use Rattle.c_strand.specs.contracts as c_strand_contracts
use Rattle.c_phase.specs.contracts as c_phase_contracts
use Rattle.c_text.specs.contracts as c_text_contracts
use Rattle.c_attributes.specs.contracts as c_attributes_contracts
use Rattle.c_lookup.specs.contracts as c_lookup_contracts
use Rattle.c_coding.specs.contracts as c_coding_contracts
use Rattle.c_unfold.specs.contracts as c_unfold_contracts
use Rattle.c_report.specs.contracts as c_report_contracts
use Rattle.c_write.specs.contracts as c_write_contracts
use Rattle.c_lines.proofs as c_lines
use Rattle.c_parts.proofs as c_parts
use Rattle.c_directives.proofs as c_directives
use Rattle.c_index.proofs as c_index
use Rattle.c_columns.proofs as c_columns
use Rattle.c_record.proofs as c_record
use Rattle.c_start.proofs as c_start
use Rattle.c_end.proofs as c_end
use Rattle.c_score.proofs as c_score
use Rattle.c_strand.proofs as c_strand
use Rattle.c_phase.proofs as c_phase
use Rattle.c_text.proofs as c_text
use Rattle.c_attributes.proofs as c_attributes
use Rattle.c_lookup.proofs as c_lookup
use Rattle.c_coding.proofs as c_coding
use Rattle.c_unfold.proofs as c_unfold
use Rattle.c_report.proofs as c_report
use Rattle.c_write.proofs as c_write
use Rattle.promise_calls.specs.Does.{Gives, Fills}

pub record InC : Type 2 where
  -- RULES 1 and 2: lines and kinds
  pub gff3_next_line : Gives c_lines_contracts.gff3_next_line.ended c_lines.gff3_next_line.Symbol.name c_lines.gff3_next_line.Symbol.code
      (λ _ (text, (at, _)). c_next_line text.now at)
  pub gff3_kind : Gives c_lines_contracts.gff3_kind.ended c_lines.gff3_kind.Symbol.name c_lines.gff3_kind.Symbol.code
      (λ _ (line, _). kind_number (kind line.now))
  pub gff3_comment : Gives c_lines_contracts.gff3_comment.ended c_lines.gff3_comment.Symbol.name c_lines.gff3_comment.Symbol.code
      (λ _ (line, _). c_comment (comment_of line.now))
  pub gff3_directive : Gives c_lines_contracts.gff3_directive.ended c_lines.gff3_directive.Symbol.name c_lines.gff3_directive.Symbol.code
      (λ _ (line, _). c_directive (directive_of line.now))
  pub gff3_take_part : Fills c_parts_contracts.gff3_take_part.ended
      c_parts.gff3_take_part.Symbol.name c_parts.gff3_take_part.Symbol.code (λ _ (_, (hold, _)). hold.now)
      (λ _ (state, (hold, (part, _))). CTakesPart state part.now hold.now)
  pub gff3_end_parts : Fills c_parts_contracts.gff3_end_parts.ended
      c_parts.gff3_end_parts.Symbol.name c_parts.gff3_end_parts.Symbol.code (λ _ (_, (hold, _)). hold.now)
      (λ _ (state, (hold, _)). CEndsParts state hold.now)
  -- RULES 3 and 4: columns and tokens
  pub gff3_index : Gives c_index_contracts.gff3_index.ended c_index.gff3_index.Symbol.name c_index.gff3_index.Symbol.code
      (λ _ (line, _). c_indexed (indexed line.now))
  pub gff3_column : Gives c_columns_contracts.gff3_column.ended c_columns.gff3_column.Symbol.name c_columns.gff3_column.Symbol.code
      (λ _ (line, (bounds, (column, _))). c_place (c_column_at (column_of_c column) line.now (bounds_of_c bounds)))
  pub gff3_record : Gives c_record_contracts.gff3_record.ended c_record.gff3_record.Symbol.name c_record.gff3_record.Symbol.code
      (λ _ (line, _). c_record (record_of line.now))
  pub gff3_text : Fills c_text_contracts.gff3_text.ended
      c_text.gff3_text.Symbol.name c_text.gff3_text.Symbol.code (λ _ (_, (_, (_, (out, _)))). out.now)
      (λ _ (line, (bounds, (column, (out, _)))). CWrote (c_text_reasons (text_column_of_c column) line.now (bounds_of_c bounds))
      (c_text (text_column_of_c column) line.now) out.now)
  pub gff3_position : Gives c_coding_contracts.gff3_position.ended c_coding.gff3_position.Symbol.name c_coding.gff3_position.Symbol.code
      (λ _ (text, _). c_position (position_of text.now))
  pub gff3_start : Gives c_start_contracts.gff3_start.ended c_start.gff3_start.Symbol.name c_start.gff3_start.Symbol.code
      (λ _ (line, (bounds, _)). c_position (position_at column.Start line.now (bounds_of_c bounds)))
  pub gff3_end : Gives c_end_contracts.gff3_end.ended c_end.gff3_end.Symbol.name c_end.gff3_end.Symbol.code
      (λ _ (line, (bounds, _)). c_position (position_at column.End line.now (bounds_of_c bounds)))
  pub gff3_score : Gives c_score_contracts.gff3_score.ended c_score.gff3_score.Symbol.name c_score.gff3_score.Symbol.code
      (λ _ (line, (bounds, _)). c_score (score_at line.now (bounds_of_c bounds)))
  pub gff3_strand : Gives c_strand_contracts.gff3_strand.ended c_strand.gff3_strand.Symbol.name c_strand.gff3_strand.Symbol.code
      (λ _ (line, (bounds, _)). c_strand (strand_at line.now (bounds_of_c bounds)))
  pub gff3_phase : Gives c_phase_contracts.gff3_phase.ended c_phase.gff3_phase.Symbol.name c_phase.gff3_phase.Symbol.code
      (λ _ (line, (bounds, _)). c_phase (phase_at line.now (bounds_of_c bounds)))
  -- RULES 5: column 9
  pub gff3_no_attributes : Gives c_attributes_contracts.gff3_no_attributes.ended
      c_attributes.gff3_no_attributes.Symbol.name c_attributes.gff3_no_attributes.Symbol.code
      (λ _ (column, _). bit (is_empty column.now))
  pub gff3_next_field : Gives c_attributes_contracts.gff3_next_field.ended
      c_attributes.gff3_next_field.Symbol.name c_attributes.gff3_next_field.Symbol.code
      (λ _ (column, (at, _)). c_next_field column.now at)
  pub gff3_next_value : Gives c_attributes_contracts.gff3_next_value.ended
      c_attributes.gff3_next_value.Symbol.name c_attributes.gff3_next_value.Symbol.code
      (λ _ (value, (at, (out, _))). c_next_value value.now at out)
  pub gff3_find_tag : Gives c_lookup_contracts.gff3_find_tag.ended c_lookup.gff3_find_tag.Symbol.name c_lookup.gff3_find_tag.Symbol.code
      (λ _ (column, (tag, _)). c_found (find_tag column.now tag.now))
  -- RULES 6: percent coding
  pub gff3_decode : Fills c_coding_contracts.gff3_decode.ended
      c_coding.gff3_decode.Symbol.name c_coding.gff3_decode.Symbol.code (λ _ (_, (out, _)). out.now)
      (λ _ (text, (out, _)). CWrote [] (decoded text.now) out.now)
  pub gff3_encode : Fills c_coding_contracts.gff3_encode.ended
      c_coding.gff3_encode.Symbol.name c_coding.gff3_encode.Symbol.code (λ _ (_, (_, (out, _))). out.now)
      (λ _ (set, (text, (out, _))). CWrote (encode_reasons text.now) (encoded (escapes (set_of_c set)) text.now) out.now)
  -- RULES 7: typed directive values
  pub gff3_version : Gives c_directives_contracts.gff3_version.ended
      c_directives.gff3_version.Symbol.name c_directives.gff3_version.Symbol.code
      (λ _ (text, _). c_version (version_of text.now))
  pub gff3_region : Gives c_directives_contracts.gff3_region.ended c_directives.gff3_region.Symbol.name c_directives.gff3_region.Symbol.code
      (λ _ (text, _). c_region (region_of text.now))
  pub gff3_build : Gives c_directives_contracts.gff3_build.ended c_directives.gff3_build.Symbol.name c_directives.gff3_build.Symbol.code
      (λ _ (text, _). c_build (build_of text.now))
  -- RULES 8: writing
  pub gff3_write_record : Fills c_write_contracts.gff3_write_record.ended
      c_write.gff3_write_record.Symbol.name c_write.gff3_write_record.Symbol.code
      (λ _ (_, (_, (_, (_, (_, (out, _)))))). out.now)
      (λ _ (sheet, (start, (end, (strand, (phase, (out, _)))))). CWrote (record_reasons sheet.now start end strand phase)
      (record_line sheet.now start end strand phase) out.now)
  pub gff3_write_directive : Fills c_write_contracts.gff3_write_directive.ended
      c_write.gff3_write_directive.Symbol.name c_write.gff3_write_directive.Symbol.code
      (λ _ (_, (_, (_, (_, (out, _))))). out.now)
      (λ _ (key, (value, (first, (second, (out, _))))). CWrote (directive_reasons key.now (value_of_c value) first.now second.now)
      (directive_line key.now (value_of_c value) first.now second.now) out.now)
  pub gff3_write_comment : Fills c_write_contracts.gff3_write_comment.ended
      c_write.gff3_write_comment.Symbol.name c_write.gff3_write_comment.Symbol.code (λ _ (_, (out, _)). out.now)
      (λ _ (text, (out, _)). CWrote (comment_reasons text.now) (comment_line text.now) out.now)
  -- RULES 9: the field sheet
  pub gff3_judge : Gives c_unfold_contracts.gff3_judge.ended c_unfold.gff3_judge.Symbol.name c_unfold.gff3_judge.Symbol.code
      (λ _ (line, _). c_judged (judged line.now))
  pub gff3_unfold : Fills c_unfold_contracts.gff3_unfold.ended
      c_unfold.gff3_unfold.Symbol.name c_unfold.gff3_unfold.Symbol.code (λ _ (_, (out, _)). out.now)
      (λ _ (line, (out, _)). CUnfolds line.now out.now)
  -- RULES 17: the morning's report
  pub gff3_report : Gives c_report_contracts.gff3_report.ended c_report.gff3_report.Symbol.name c_report.gff3_report.Symbol.code
      (λ _ (text, _). c_morning (morning text.now))
