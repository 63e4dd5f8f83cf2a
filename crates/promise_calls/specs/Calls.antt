-- The calls of the rules, each tied to the definition by which the demands speak of it. A line says: this function's code, called with any
-- arguments, ends, and gives this answer and no other. A function whose contract no longer says as much, or that asks something of its
-- caller, is refused at its line. In each λ first come the lifetimes of what is lent, `_`, and then the arguments; where a buffer is lent,
-- the first λ says which argument it is. Assumes nothing: these are definitions.
use Rattle.std.specs.Prelude.{[]}
use Rattle.base_buffer.specs.Answer.{refusal_of, unless, Wrote}
use Rattle.write_decimals.specs.Decimal.{decimal}
use Rattle.percent_coding.specs.Percent.{decoded, encoded}
use Rattle.percent_sets.specs.Sets.{escapes}
use Rattle.percent_encode.specs.Encode.{encode_reasons}
use Rattle.read_lines.specs.Blank as blank
use Rattle.read_lines.specs.Step as lines
use Rattle.read_parts.specs.State as parts
use Rattle.read_parts.specs.Calls.{TakesPart, EndsParts}
use Rattle.read_kind.specs.Kind.{kind, comment_of, directive_of}
use Rattle.read_tokens.specs.Tokens.{position_of, strand_of, phase_of}
use Rattle.read_columns.specs.Columns.{indexed, column_at, column_text}
use Rattle.read_columns.specs.declared.column.Column.TheVariants as column
use Rattle.read_fields.specs.Fields.{position_at, score_at, strand_at, phase_at, record_of, text_reasons}
use Rattle.read_values.specs.Step as values
use Rattle.read_attributes.specs.Attributes.{is_empty}
use Rattle.read_attributes.specs.Step as column9
use Rattle.read_lookup.specs.Lookup as lookup
use Rattle.read_version.specs.GffVersion.{version_of}
use Rattle.read_directives.specs.GenomeBuild.{build_of}
use Rattle.read_directives.specs.SequenceRegion.{region_of}
use Rattle.read_judge.specs.Judge.{judged, numbers_judged}
use Rattle.read_judge.specs.Survey.{admitted, surveyed}
use Rattle.read_record.specs.Unfold.{Unfolds}
use Rattle.read_verdict.specs.Verdict.{verdict}
use Rattle.read_report.specs.Report.{morning}
use Rattle.write_comment.specs.Comment.{comment_reasons, comment_line}
use Rattle.write_directive.specs.Directive.{directive_reasons, directive_line}
use Rattle.write_measure.specs.Record.{measured, record_reasons, record_line}
use Rattle.write_decimals.specs.contracts as write_decimals_contracts
use Rattle.percent_decode.specs.contracts as percent_decode_contracts
use Rattle.percent_encode.specs.contracts as percent_encode_contracts
use Rattle.read_lines.specs.contracts as read_lines_contracts
use Rattle.read_parts.specs.contracts as read_parts_contracts
use Rattle.read_kind.specs.contracts as read_kind_contracts
use Rattle.read_tokens.specs.contracts as read_tokens_contracts
use Rattle.read_columns.specs.contracts as read_columns_contracts
use Rattle.read_fields.specs.contracts as read_fields_contracts
use Rattle.read_values.specs.contracts as read_values_contracts
use Rattle.read_attributes.specs.contracts as read_attributes_contracts
use Rattle.read_lookup.specs.contracts as read_lookup_contracts
use Rattle.read_walker.specs.contracts as read_walker_contracts
use Rattle.read_version.specs.contracts as read_version_contracts
use Rattle.read_directives.specs.contracts as read_directives_contracts
use Rattle.read_judge.specs.contracts as read_judge_contracts
use Rattle.read_record.specs.contracts as read_record_contracts
use Rattle.read_verdict.specs.contracts as read_verdict_contracts
use Rattle.read_report.specs.contracts as read_report_contracts
use Rattle.write_comment.specs.contracts as write_comment_contracts
use Rattle.write_directive.specs.contracts as write_directive_contracts
use Rattle.write_measure.specs.contracts as write_measure_contracts
use Rattle.write_record.specs.contracts as write_record_contracts
use Rattle.write_decimals.proofs as write_decimals
use Rattle.percent_decode.proofs as percent_decode
use Rattle.percent_encode.proofs as percent_encode
use Rattle.read_lines.proofs as read_lines
use Rattle.read_parts.proofs as read_parts
use Rattle.read_kind.proofs as read_kind
use Rattle.read_tokens.proofs as read_tokens
use Rattle.read_columns.proofs as read_columns
use Rattle.read_fields.proofs as read_fields
use Rattle.read_values.proofs as read_values
use Rattle.read_attributes.proofs as read_attributes
use Rattle.read_lookup.proofs as read_lookup
use Rattle.read_walker.proofs as read_walker
use Rattle.read_version.proofs as read_version
use Rattle.read_directives.proofs as read_directives
use Rattle.read_judge.proofs as read_judge
use Rattle.read_record.proofs as read_record
use Rattle.read_verdict.proofs as read_verdict
use Rattle.read_report.proofs as read_report
use Rattle.write_comment.proofs as write_comment
use Rattle.write_directive.proofs as write_directive
use Rattle.write_measure.proofs as write_measure
use Rattle.write_record.proofs as write_record
use Rattle.promise_calls.specs.Does.{Gives, Shows, Fills}

pub record Calls : Type 2 where
  -- RULES 1: lines
  pub cursor : Gives read_lines_contracts.Cursor.new.ended read_lines.Cursor.new.Symbol.name read_lines.Cursor.new.Symbol.code
      (λ _ a. lines.fresh)
  pub past_blank : Gives read_lines_contracts.past_blank.ended read_lines.past_blank.Symbol.name read_lines.past_blank.Symbol.code
      (λ _ (text, (from, _)). blank.past_blank text.now from)
  pub next_line : Gives read_lines_contracts.next_line.ended read_lines.next_line.Symbol.name read_lines.next_line.Symbol.code
      (λ _ (text, (cursor, _)). lines.next_line text.now cursor)
  pub state : Gives read_parts_contracts.state.State.new.ended read_parts.state.State.new.Symbol.name read_parts.state.State.new.Symbol.code
      (λ _ a. parts.fresh)
  pub take_part : Fills read_parts_contracts.take_part.ended
      read_parts.take_part.Symbol.name read_parts.take_part.Symbol.code (λ _ (_, (hold, _)). hold.now)
      (λ _ (state, (hold, (part, _))). TakesPart state part.now hold.now)
  pub end_parts : Fills read_parts_contracts.end_parts.ended
      read_parts.end_parts.Symbol.name read_parts.end_parts.Symbol.code (λ _ (_, (hold, _)). hold.now)
      (λ _ (state, (hold, _)). EndsParts state hold.now)
  -- RULES 2: kinds
  pub kind_of : Gives read_kind_contracts.kind_of.ended read_kind.kind_of.Symbol.name read_kind.kind_of.Symbol.code
      (λ _ (line, _). kind line.now)
  pub comment_of : Gives read_kind_contracts.comment_of.ended read_kind.comment_of.Symbol.name read_kind.comment_of.Symbol.code
      (λ _ (line, _). comment_of line.now)
  pub directive_of : Gives read_kind_contracts.directive_of.ended read_kind.directive_of.Symbol.name read_kind.directive_of.Symbol.code
      (λ _ (line, _). directive_of line.now)
  -- RULES 3: columns
  pub index : Gives read_columns_contracts.index.ended read_columns.index.Symbol.name read_columns.index.Symbol.code
      (λ _ (line, _). indexed line.now)
  pub column_at : Gives read_columns_contracts.column_at.ended read_columns.column_at.Symbol.name read_columns.column_at.Symbol.code
      (λ _ (line, (bounds, (column, _))). column_at column line.now bounds)
  pub reference_sequence_name : Fills read_fields_contracts.reference_sequence_name.ended
      read_fields.reference_sequence_name.Symbol.name read_fields.reference_sequence_name.Symbol.code
      (λ _ (_, (_, (out, _))). out.now)
      (λ _ (line, (bounds, (out, _))).
      Wrote (text_reasons line.now bounds) (decoded (column_text column.ReferenceSequenceName line.now)) out.now)
  pub source : Fills read_fields_contracts.source.ended
      read_fields.source.Symbol.name read_fields.source.Symbol.code (λ _ (_, (_, (out, _))). out.now)
      (λ _ (line, (bounds, (out, _))). Wrote (text_reasons line.now bounds) (decoded (column_text column.Source line.now)) out.now)
  pub ty : Fills read_fields_contracts.ty.ended read_fields.ty.Symbol.name read_fields.ty.Symbol.code (λ _ (_, (_, (out, _))). out.now)
      (λ _ (line, (bounds, (out, _))). Wrote (text_reasons line.now bounds) (decoded (column_text column.Ty line.now)) out.now)
  -- RULES 4: tokens
  pub position_of : Gives read_tokens_contracts.position_of.ended read_tokens.position_of.Symbol.name read_tokens.position_of.Symbol.code
      (λ _ (text, _). position_of text.now)
  pub strand_of : Gives read_tokens_contracts.strand_of.ended read_tokens.strand_of.Symbol.name read_tokens.strand_of.Symbol.code
      (λ _ (text, _). strand_of text.now)
  pub phase_of : Gives read_tokens_contracts.phase_of.ended read_tokens.phase_of.Symbol.name read_tokens.phase_of.Symbol.code
      (λ _ (text, _). phase_of text.now)
  pub start_at : Gives read_fields_contracts.start_at.ended read_fields.start_at.Symbol.name read_fields.start_at.Symbol.code
      (λ _ (line, (bounds, _)). position_at column.Start line.now bounds)
  pub end_at : Gives read_fields_contracts.end_at.ended read_fields.end_at.Symbol.name read_fields.end_at.Symbol.code
      (λ _ (line, (bounds, _)). position_at column.End line.now bounds)
  pub score_at : Gives read_fields_contracts.score_at.ended read_fields.score_at.Symbol.name read_fields.score_at.Symbol.code
      (λ _ (line, (bounds, _)). score_at line.now bounds)
  pub strand_at : Gives read_fields_contracts.strand_at.ended read_fields.strand_at.Symbol.name read_fields.strand_at.Symbol.code
      (λ _ (line, (bounds, _)). strand_at line.now bounds)
  pub phase_at : Gives read_fields_contracts.phase_at.ended read_fields.phase_at.Symbol.name read_fields.phase_at.Symbol.code
      (λ _ (line, (bounds, _)). phase_at line.now bounds)
  pub record_of : Gives read_fields_contracts.record_of.ended read_fields.record_of.Symbol.name read_fields.record_of.Symbol.code
      (λ _ (line, _). record_of line.now)
  -- RULES 5: column 9
  pub is_empty : Gives read_attributes_contracts.is_empty.ended read_attributes.is_empty.Symbol.name read_attributes.is_empty.Symbol.code
      (λ _ (column, _). is_empty column.now)
  pub next_field : Gives read_attributes_contracts.next_field.ended
      read_attributes.next_field.Symbol.name read_attributes.next_field.Symbol.code
      (λ _ (column, (at, _)). column9.next_field column.now at)
  pub value_cursor : Gives read_values_contracts.ValueCursor.new.ended
      read_values.ValueCursor.new.Symbol.name read_values.ValueCursor.new.Symbol.code
      (λ _ a. values.fresh)
  pub next_value : Gives read_values_contracts.next_value.ended read_values.next_value.Symbol.name read_values.next_value.Symbol.code
      (λ _ (value, (cursor, _)). values.next_value value.now cursor)
  pub find_tag : Gives read_lookup_contracts.find_tag.ended read_lookup.find_tag.Symbol.name read_lookup.find_tag.Symbol.code
      (λ _ (column, (tag, _)). lookup.find_tag column.now tag.now)
  pub value_or : Shows read_lookup_contracts.value_or.ended read_lookup.value_or.Symbol.name read_lookup.value_or.Symbol.code (λ _ r. r.now)
      (λ _ (column, (tag, (fallback, _))). lookup.value_or column.now tag.now fallback.now)
  pub walk_over : Gives read_walker_contracts.Attributes.walk_over.ended read_walker.Attributes.walk_over.Symbol.name read_walker.Attributes.walk_over.Symbol.code
      (λ _ (column, _). record { column = column; at = 0 })
  pub next : Gives read_walker_contracts.Attributes.next.ended read_walker.Attributes.next.Symbol.name read_walker.Attributes.next.Symbol.code
      (λ _ (walker, _). column9.next_field walker.column.now walker.at)
  pub moved : Gives read_walker_contracts.Attributes.moved.ended read_walker.Attributes.moved.Symbol.name read_walker.Attributes.moved.Symbol.code
      (λ _ (walker, (at, _)). record { column = walker.column; at = at })
  pub get : Gives read_walker_contracts.Attributes.get.ended read_walker.Attributes.get.Symbol.name read_walker.Attributes.get.Symbol.code
      (λ _ (walker, (tag, _)). lookup.find_tag walker.column.now tag.now)
  pub first_field : Gives read_walker_contracts.first_field.ended read_walker.first_field.Symbol.name read_walker.first_field.Symbol.code
      (λ _ (column, _). column9.next_field column.now 0)
  -- RULES 6: percent coding
  pub decode : Fills percent_decode_contracts.decode.ended
      percent_decode.decode.Symbol.name percent_decode.decode.Symbol.code (λ _ (_, (out, _)). out.now)
      (λ _ (s, (out, _)). Wrote [] (decoded s.now) out.now)
  pub encode : Fills percent_encode_contracts.encode.ended
      percent_encode.encode.Symbol.name percent_encode.encode.Symbol.code (λ _ (_, (_, (out, _))). out.now)
      (λ _ (set, (s, (out, _))). Wrote (encode_reasons s.now) (encoded (escapes set) s.now) out.now)
  -- RULES 7: typed directive values
  pub parse_gff_version : Gives read_version_contracts.parse_gff_version.ended
      read_version.parse_gff_version.Symbol.name read_version.parse_gff_version.Symbol.code
      (λ _ (text, _). version_of text.now)
  pub parse_sequence_region : Gives read_directives_contracts.parse_sequence_region.ended
      read_directives.parse_sequence_region.Symbol.name read_directives.parse_sequence_region.Symbol.code
      (λ _ (text, _). region_of text.now)
  pub parse_genome_build : Gives read_directives_contracts.parse_genome_build.ended
      read_directives.parse_genome_build.Symbol.name read_directives.parse_genome_build.Symbol.code
      (λ _ (text, _). build_of text.now)
  -- RULES 8: writing
  pub write_decimal : Fills write_decimals_contracts.write_decimal.ended
      write_decimals.write_decimal.Symbol.name write_decimals.write_decimal.Symbol.code (λ _ (_, (out, _)). out.now)
      (λ _ (n, (out, _)). Wrote [] (decimal n) out.now)
  pub measure : Gives write_measure_contracts.measure.ended write_measure.measure.Symbol.name write_measure.measure.Symbol.code
      (λ _ (sheet, (start, (end, (strand, (phase, _))))). measured sheet.now start end strand phase)
  pub refusal : Gives write_measure_contracts.refusal.ended write_measure.refusal.Symbol.name write_measure.refusal.Symbol.code
      (λ _ (sheet, (start, (end, (strand, (phase, _))))). unless (refusal_of (record_reasons sheet.now start end strand phase)) (tt {0}))
  pub write_record : Fills write_record_contracts.write_record.ended
      write_record.write_record.Symbol.name write_record.write_record.Symbol.code
      (λ _ (_, (_, (_, (_, (_, (out, _)))))). out.now)
      (λ _ (sheet, (start, (end, (strand, (phase, (out, _)))))). Wrote (record_reasons sheet.now start end strand phase)
      (record_line sheet.now start end strand phase) out.now)
  pub write_directive : Fills write_directive_contracts.write_directive.ended
      write_directive.write_directive.Symbol.name write_directive.write_directive.Symbol.code
      (λ _ (_, (_, (_, (_, (out, _))))). out.now)
      (λ _ (key, (value, (first, (second, (out, _))))). Wrote (directive_reasons key.now value first.now second.now)
      (directive_line key.now value first.now second.now) out.now)
  pub write_comment : Fills write_comment_contracts.write_comment.ended
      write_comment.write_comment.Symbol.name write_comment.write_comment.Symbol.code (λ _ (_, (out, _)). out.now)
      (λ _ (text, (out, _)). Wrote (comment_reasons text.now) (comment_line text.now) out.now)
  -- RULES 9: the field sheet
  pub judge : Gives read_judge_contracts.judge.ended read_judge.judge.Symbol.name read_judge.judge.Symbol.code
      (λ _ (line, _). judged line.now)
  pub judge_numbers : Gives read_judge_contracts.judge_numbers.ended
      read_judge.judge_numbers.Symbol.name read_judge.judge_numbers.Symbol.code
      (λ _ (line, _). numbers_judged (judged line.now))
  pub admit : Gives read_judge_contracts.admit.ended read_judge.admit.Symbol.name read_judge.admit.Symbol.code
      (λ _ (line, _). admitted line.now)
  pub survey : Gives read_judge_contracts.survey.ended read_judge.survey.Symbol.name read_judge.survey.Symbol.code
      (λ _ (line, _). surveyed line.now)
  pub «unfold» : Fills read_record_contracts.unfold.ended read_record.unfold.Symbol.name read_record.unfold.Symbol.code (λ _ (_, (out, _)). out.now)
      (λ _ (line, (out, _)). Unfolds line.now out.now)
  -- RULES 17: the morning's report
  pub verdict_of : Gives read_verdict_contracts.verdict_of.ended read_verdict.verdict_of.Symbol.name read_verdict.verdict_of.Symbol.code
      (λ _ (line, _). verdict line.now)
  pub report_of : Gives read_report_contracts.report_of.ended read_report.report_of.Symbol.name read_report.report_of.Symbol.code
      (λ _ (text, _). morning text.now)
