-- The building blocks, which docs/PROMISES.md lists: public functions that other crates call, and that are no calls of the rules. Each is
-- tied to its definition, as in specs/Calls.antt. Assumes nothing: these are definitions.
use Rattle.std.specs.Prelude.{◌≡◌, [], ◌∷◌, cond, is_some, length, take, min, ◌-◌, ◌^◌}
use Rattle.base_scan.specs.Find.{found, found_two, found_on, found_last}
use Rattle.base_scan.specs.Mask.{mask}
use Rattle.base_scan.specs.Part.{part, text_at}
use Rattle.base_words.specs.Same.{same, is_dot}
use Rattle.base_words.specs.Word as word
use Rattle.base_refusals.specs.Refusal as refusals
use Rattle.base_buffer.specs.Answer.{error_number}
use Rattle.base_buffer.specs.Laid.{Lays}
use Rattle.read_numbers.specs.Number as number
use Rattle.write_decimals.specs.Decimal.{decimal}
use Rattle.percent_coding.specs.Percent.{decoded, encoded, count_escaped}
use Rattle.percent_sets.specs.Sets as sets
use Rattle.read_score.specs.Score.{is_score}
use Rattle.read_tokens.specs.Tokens.{strand_number, strand_byte, phase_number, phase_byte}
use Rattle.read_columns.specs.Columns as columns
use Rattle.read_columns.specs.Columns.{is_own}
use Rattle.sheet_form.specs.Cursor.{count_at, section_at}
use Rattle.sheet_form.specs.Sheet.{count_of, section_of, sheet_read}
use Rattle.read_judge.specs.Judge.{score_of_token}
use Rattle.write_line.specs.Record.{record_line, counted_line}
use Rattle.write_measure.specs.Record.{fault_of}
use Rattle.write_texts.specs.Text as texts
use Rattle.c_answers.specs.Answers.{bounds_of_c, c_bounds, no_bounds, c_position, c_written}
use Rattle.base_scan.specs.contracts as base_scan_contracts
use Rattle.base_words.specs.contracts as base_words_contracts
use Rattle.base_numbers.specs.contracts as base_numbers_contracts
use Rattle.base_refusals.specs.contracts as base_refusals_contracts
use Rattle.base_buffer.specs.contracts as base_buffer_contracts
use Rattle.read_numbers.specs.contracts as read_numbers_contracts
use Rattle.write_decimals.specs.contracts as write_decimals_contracts
use Rattle.percent_sets.specs.contracts as percent_sets_contracts
use Rattle.percent_decode.specs.contracts as percent_decode_contracts
use Rattle.percent_encode.specs.contracts as percent_encode_contracts
use Rattle.write_line.specs.contracts as write_line_contracts
use Rattle.write_measure.specs.contracts as write_measure_contracts
use Rattle.read_score.specs.contracts as read_score_contracts
use Rattle.read_tokens.specs.contracts as read_tokens_contracts
use Rattle.read_columns.specs.contracts as read_columns_contracts
use Rattle.sheet_form.specs.contracts as sheet_form_contracts
use Rattle.sheet_sections.specs.contracts as sheet_sections_contracts
use Rattle.read_judge.specs.contracts as read_judge_contracts
use Rattle.write_texts.specs.contracts as write_texts_contracts
use Rattle.c_answers.specs.contracts as c_answers_contracts
use Rattle.base_scan.proofs as base_scan
use Rattle.base_words.proofs as base_words
use Rattle.base_numbers.proofs as base_numbers
use Rattle.base_refusals.proofs as base_refusals
use Rattle.base_buffer.proofs as base_buffer
use Rattle.read_numbers.proofs as read_numbers
use Rattle.write_decimals.proofs as write_decimals
use Rattle.percent_sets.proofs as percent_sets
use Rattle.percent_decode.proofs as percent_decode
use Rattle.percent_encode.proofs as percent_encode
use Rattle.write_line.proofs as write_line
use Rattle.write_measure.proofs as write_measure
use Rattle.read_score.proofs as read_score
use Rattle.read_tokens.proofs as read_tokens
use Rattle.read_columns.proofs as read_columns
use Rattle.sheet_form.proofs as sheet_form
use Rattle.sheet_sections.proofs as sheet_sections
use Rattle.read_judge.proofs as read_judge
use Rattle.write_texts.proofs as write_texts
use Rattle.c_answers.proofs as c_answers
use Rattle.promise_calls.specs.Does.{Gives, Shows, Fills, Puts}
use Rattle.promise_calls.specs.Sinks.{sink_dicts, coded_dicts, SinkMet, CodedMet}

pub record Blocks : Type 2 where
  -- parts and words of a text
  pub find : Gives base_scan_contracts.find.ended base_scan.find.Symbol.name base_scan.find.Symbol.code
      (λ _ (given, (at, (b, _))). found b at given.now)
  pub find_two : Gives base_scan_contracts.find_two.ended base_scan.find_two.Symbol.name base_scan.find_two.Symbol.code
      (λ _ (given, (at, (b, (c, _)))). found_two b c at given.now)
  pub find_on : Gives base_scan_contracts.find_on.ended base_scan.find_on.Symbol.name base_scan.find_on.Symbol.code
      (λ _ (s, (known, (at, (b, _)))). found_on b known at s.now)
  pub find_last : Gives base_scan_contracts.find_last.ended base_scan.find_last.Symbol.name base_scan.find_last.Symbol.code
      (λ _ (s, (b, _)). found_last b s.now)
  pub marks : Gives base_scan_contracts.marks.ended base_scan.marks.Symbol.name base_scan.marks.Symbol.code
      (λ _ (given, (b, _)). mask b (take 64 given.now))
  pub part : Shows base_scan_contracts.part.ended base_scan.part.Symbol.name base_scan.part.Symbol.code (λ _ r. r.now)
      (λ _ (s, (a, (e, _))). part a e s.now)
  pub text : Shows base_scan_contracts.text.ended base_scan.text.Symbol.name base_scan.text.Symbol.code (λ _ r. r.now)
      (λ _ (s, (place, _)). text_at place s.now)
  pub is_dot : Gives base_words_contracts.is_dot.ended base_words.is_dot.Symbol.name base_words.is_dot.Symbol.code
      (λ _ (s, _). is_dot s.now)
  pub is_same : Gives base_words_contracts.is_same.ended base_words.is_same.Symbol.name base_words.is_same.Symbol.code
      (λ _ (s, (t, _)). same s.now t.now)
  pub is_space : Gives base_words_contracts.is_space.ended base_words.is_space.Symbol.name base_words.is_space.Symbol.code
      (λ _ (b, _). word.is_space b)
  pub find_space : Gives base_words_contracts.find_space.ended base_words.find_space.Symbol.name base_words.find_space.Symbol.code
      (λ _ (s, (at, _)). word.space at s.now)
  pub find_ink : Gives base_words_contracts.find_ink.ended base_words.find_ink.Symbol.name base_words.find_ink.Symbol.code
      (λ _ (s, (at, _)). word.ink at s.now)
  pub next_word : Gives base_words_contracts.next_word.ended base_words.next_word.Symbol.name base_words.next_word.Symbol.code
      (λ _ (s, (at, _)). word.word s.now at)
  -- numbers
  pub least : Gives base_numbers_contracts.least.ended base_numbers.least.Symbol.name base_numbers.least.Symbol.code
      (λ _ (a, (b, _)). min a b)
  pub either : Gives base_numbers_contracts.either.ended base_numbers.either.Symbol.name base_numbers.either.Symbol.code
      (λ _ (test, (number, (other, _))). cond test number other)
  pub refusal_number : Gives base_refusals_contracts.Refusal.number.ended
      base_refusals.Refusal.number.Symbol.name base_refusals.Refusal.number.Symbol.code
      (λ _ (reason, _). refusals.number reason)
  pub error_number : Gives base_buffer_contracts.WriteError.number.ended
      base_buffer.WriteError.number.Symbol.name base_buffer.WriteError.number.Symbol.code
      (λ _ (error, _). error_number error)
  -- pieces laid over a buffer
  pub lay_byte : Fills base_buffer_contracts.lay_byte.ended
      base_buffer.lay_byte.Symbol.name base_buffer.lay_byte.Symbol.code (λ _ (_, (out, _)). out.now)
      (λ _ (b, (out, (at, _))). Lays (b ∷ []) out.now at)
  pub lay : Fills base_buffer_contracts.lay.ended base_buffer.lay.Symbol.name base_buffer.lay.Symbol.code (λ _ (_, (out, _)). out.now)
      (λ _ (s, (out, (at, _))). Lays s.now out.now at)
  pub lay_decimal : Fills write_decimals_contracts.lay_decimal.ended
      write_decimals.lay_decimal.Symbol.name write_decimals.lay_decimal.Symbol.code (λ _ (_, (out, _)). out.now)
      (λ _ (n, (out, (at, _))). Lays (decimal n) out.now at)
  pub lay_decoded : Fills percent_decode_contracts.lay_decoded.ended
      percent_decode.lay_decoded.Symbol.name percent_decode.lay_decoded.Symbol.code (λ _ (_, (out, _)). out.now)
      (λ _ (s, (out, (at, _))). Lays (decoded s.now) out.now at)
  pub lay_encoded : Fills percent_encode_contracts.lay_encoded.ended
      percent_encode.lay_encoded.Symbol.name percent_encode.lay_encoded.Symbol.code (λ _ (_, (_, (out, _))). out.now)
      (λ _ (set, (s, (out, (at, _)))). Lays (encoded (sets.escapes set) s.now) out.now at)
  pub lay_count : Fills sheet_sections_contracts.lay_count.ended
      sheet_sections.lay_count.Symbol.name sheet_sections.lay_count.Symbol.code (λ _ (_, (out, _)). out.now)
      (λ _ (n, (out, (at, _))). Lays (count_of n) out.now at)
  pub lay_section : Fills sheet_sections_contracts.lay_section.ended
      sheet_sections.lay_section.Symbol.name sheet_sections.lay_section.Symbol.code (λ _ (_, (out, _)). out.now)
      (λ _ (text, (out, (at, _))). Lays (section_of text.now) out.now at)
  pub lay_decoded_section : Fills sheet_sections_contracts.lay_decoded_section.ended
      sheet_sections.lay_decoded_section.Symbol.name sheet_sections.lay_decoded_section.Symbol.code
      (λ _ (_, (out, _)). out.now)
      (λ _ (text, (out, (at, _))). Lays (section_of (decoded text.now)) out.now at)
  -- pieces put into any sink
  pub put_decimal : Puts sink_dicts SinkMet (λ S (g, d). write_decimals_contracts.put_decimal.ended S g d)
      write_decimals.put_decimal.Symbol.name write_decimals.put_decimal.Symbol.code (λ S g κs. κs.1.0)
      (λ S (g, _) κs (_, (sink, _)). g.shows sink.now)
      (λ S (g, _) κs (n, (sink, _)) (_, (left, _)) r. g.took (decimal n) sink.now left.now)
  pub put_decoded : Puts sink_dicts SinkMet (λ S (g, d). percent_decode_contracts.put_decoded.ended S g d)
      percent_decode.put_decoded.Symbol.name percent_decode.put_decoded.Symbol.code (λ S g κs. κs.1.1.0)
      (λ S (g, _) κs (_, (sink, _)). g.shows sink.now)
      (λ S (g, _) κs (s, (sink, _)) (_, (left, _)) r. g.took (decoded s.now) sink.now left.now)
  pub put_encoded : Puts sink_dicts SinkMet (λ S (g, d). percent_encode_contracts.put_encoded.ended S g d)
      percent_encode.put_encoded.Symbol.name percent_encode.put_encoded.Symbol.code (λ S g κs. κs.1.1.0)
      (λ S (g, _) κs (_, (_, (sink, _))). g.shows sink.now)
      (λ S (g, _) κs (set, (s, (sink, _))) (_, (_, (left, _))) r. g.took (encoded (sets.escapes set) s.now) sink.now left.now)
  pub put_line : Puts coded_dicts CodedMet (λ S (g, (d, (h, e))). write_line_contracts.put_line.ended S g d h e)
      write_line.put_line.Symbol.name write_line.put_line.Symbol.code (λ S g κs. κs.1.1.0)
      (λ S (_, (_, (g, _))) κs (_, (_, (_, (_, (_, (sink, _)))))). g.shows sink.now)
      (λ S (_, (_, (g, _))) κs (sheet, (start, (end, (strand, (phase, (sink, _)))))) (_, (_, (_, (_, (_, (left, _)))))) r.
      (r ≡ is_some (sheet_read sheet.now)) × g.took (record_line sheet.now start end strand phase) sink.now left.now)
  -- of a sheet: whether it has the form, how long its line is, and what its fields give
  pub is_form : Gives write_line_contracts.is_form.ended write_line.is_form.Symbol.name write_line.is_form.Symbol.code
      (λ _ (sheet, _). is_some (sheet_read sheet.now))
  pub count_line : Gives write_line_contracts.count_line.ended write_line.count_line.Symbol.name write_line.count_line.Symbol.code
      (λ _ (sheet, (start, (end, (strand, (phase, _))))). counted_line sheet.now start end strand phase)
  pub fault : Gives write_measure_contracts.fault.ended write_measure.fault.Symbol.name write_measure.fault.Symbol.code
      (λ _ (sheet, (start, (end, (strand, (phase, _))))). fault_of sheet.now start end strand phase)
  -- measures of such pieces
  pub decimal_len : Gives write_decimals_contracts.decimal_len.ended
      write_decimals.decimal_len.Symbol.name write_decimals.decimal_len.Symbol.code
      (λ _ (n, _). length (decimal n))
  pub decoded_len : Gives percent_decode_contracts.decoded_len.ended
      percent_decode.decoded_len.Symbol.name percent_decode.decoded_len.Symbol.code
      (λ _ (s, _). length (decoded s.now))
  pub count_escaped : Gives percent_encode_contracts.count_escaped.ended
      percent_encode.count_escaped.Symbol.name percent_encode.count_escaped.Symbol.code
      (λ _ (set, (s, _)). count_escaped (sets.escapes set) s.now)
  pub encoded_len : Gives percent_encode_contracts.encoded_len.ended
      percent_encode.encoded_len.Symbol.name percent_encode.encoded_len.Symbol.code
      (λ _ (set, (s, _)). min (length (encoded (sets.escapes set) s.now)) (2 ^ 64 - 1))
  -- tables and tests of percent coding
  pub table : Shows percent_sets_contracts.table.ended percent_sets.table.Symbol.name percent_sets.table.Symbol.code (λ _ r. r.now)
      (λ _ a. sets.classes)
  pub classes : Gives percent_sets_contracts.classes.ended percent_sets.classes.Symbol.name percent_sets.classes.Symbol.code
      (λ _ a. sets.classes)
  pub escaped : Gives percent_sets_contracts.escaped.ended percent_sets.escaped.Symbol.name percent_sets.escaped.Symbol.code
      (λ _ (set, (b, _)). sets.escapes set b)
  pub escaped_by : Gives percent_sets_contracts.escaped_by.ended percent_sets.escaped_by.Symbol.name percent_sets.escaped_by.Symbol.code
      (λ _ (table, (set, (b, _))). sets.escapes_by table.now set b)
  pub decodes_to : Gives percent_decode_contracts.decodes_to.ended
      percent_decode.decodes_to.Symbol.name percent_decode.decodes_to.Symbol.code
      (λ _ (s, (plain, _)). same (decoded s.now) plain.now)
  -- tests and values of a token
  pub position : Gives read_numbers_contracts.position.ended read_numbers.position.Symbol.name read_numbers.position.Symbol.code
      (λ _ (s, _). number.position s.now)
  pub region_position : Gives read_numbers_contracts.region_position.ended
      read_numbers.region_position.Symbol.name read_numbers.region_position.Symbol.code
      (λ _ (s, _). number.region_position s.now)
  pub version_part : Gives read_numbers_contracts.version_part.ended
      read_numbers.version_part.Symbol.name read_numbers.version_part.Symbol.code
      (λ _ (s, _). number.version_part s.now)
  pub is_score : Gives read_score_contracts.is_score.ended read_score.is_score.Symbol.name read_score.is_score.Symbol.code
      (λ _ (s, _). is_score s.now)
  pub score : Shows read_judge_contracts.score.ended read_judge.score.Symbol.name read_judge.score.Symbol.code (λ _ r. r.now)
      (λ _ (token, _). score_of_token token.now)
  -- numbers and bytes of strand and phase
  pub strand_number : Gives read_tokens_contracts.strand_number.ended
      read_tokens.strand_number.Symbol.name read_tokens.strand_number.Symbol.code
      (λ _ (strand, _). strand_number strand)
  pub strand_byte : Gives read_tokens_contracts.strand_byte.ended read_tokens.strand_byte.Symbol.name read_tokens.strand_byte.Symbol.code
      (λ _ (strand, _). strand_byte strand)
  pub phase_number : Gives read_tokens_contracts.phase_number.ended
      read_tokens.phase_number.Symbol.name read_tokens.phase_number.Symbol.code
      (λ _ (phase, _). phase_number phase)
  pub phase_byte : Gives read_tokens_contracts.phase_byte.ended read_tokens.phase_byte.Symbol.name read_tokens.phase_byte.Symbol.code
      (λ _ (phase, _). phase_byte phase)
  -- columns by any bounds, and the check of bounds
  pub own : Gives read_columns_contracts.own.ended read_columns.own.Symbol.name read_columns.own.Symbol.code
      (λ _ (line, (bounds, _)). is_own line.now bounds)
  pub place_in : Gives read_columns_contracts.place_in.ended read_columns.place_in.Symbol.name read_columns.place_in.Symbol.code
      (λ _ (column, (bounds, (len, _))). columns.place_in column bounds len)
  pub text_in : Shows read_columns_contracts.text_in.ended read_columns.text_in.Symbol.name read_columns.text_in.Symbol.code (λ _ r. r.now)
      (λ _ (line, (bounds, (column, _))). text_at (columns.place_in column bounds (length line.now)) line.now)
  -- pieces of a sheet read
  pub count_at : Gives sheet_form_contracts.count_at.ended sheet_form.count_at.Symbol.name sheet_form.count_at.Symbol.code
      (λ _ (sheet, (at, _)). count_at sheet.now at)
  pub section_at : Gives sheet_form_contracts.section_at.ended sheet_form.section_at.Symbol.name sheet_form.section_at.Symbol.code
      (λ _ (sheet, (at, _)). section_at sheet.now at)
  -- tests of a text to write
  pub is_long : Gives write_texts_contracts.is_long.ended write_texts.is_long.Symbol.name write_texts.is_long.Symbol.code
      (λ _ (s, _). texts.long s.now)
  pub breaks : Gives write_texts_contracts.breaks.ended write_texts.breaks.Symbol.name write_texts.breaks.Symbol.code
      (λ _ (s, _). texts.breaks s.now)
  pub is_spaced : Gives write_texts_contracts.is_spaced.ended write_texts.is_spaced.Symbol.name write_texts.is_spaced.Symbol.code
      (λ _ (s, _). texts.holds word.is_space s.now)
  pub is_unfit : Gives write_texts_contracts.is_unfit.ended write_texts.is_unfit.Symbol.name write_texts.is_unfit.Symbol.code
      (λ _ (s, _). texts.unfit s.now)
  -- answers as C has them
  pub bounds_in : Gives c_answers_contracts.bounds_in.ended c_answers.bounds_in.Symbol.name c_answers.bounds_in.Symbol.code
      (λ _ (bounds, _). bounds_of_c bounds)
  pub bounds_out : Gives c_answers_contracts.bounds_out.ended c_answers.bounds_out.Symbol.name c_answers.bounds_out.Symbol.code
      (λ _ (bounds, _). c_bounds bounds)
  pub no_bounds : Gives c_answers_contracts.no_bounds.ended c_answers.no_bounds.Symbol.name c_answers.no_bounds.Symbol.code
      (λ _ a. no_bounds)
  pub position_of : Gives c_answers_contracts.position_of.ended c_answers.position_of.Symbol.name c_answers.position_of.Symbol.code
      (λ _ (read, _). c_position read)
  pub written_of : Gives c_answers_contracts.written_of.ended c_answers.written_of.Symbol.name c_answers.written_of.Symbol.code
      (λ _ (written, _). c_written written)
