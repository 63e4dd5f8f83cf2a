-- Each building block does what specs/Blocks.antt says: that is its contract, which its code meets, or follows from it. Assumes nothing.
use lib.ListN.{length}
use mathlib.Core.Path.{◌≡◌, refl, sym, ◌∙◌}
use Prim.Native.Nat.{◌≤◌, ◌*◌}
use Rattle.std.specs.Prelude.{Some, is_some}
use Rattle.base_buffer.specs.Answer.{refusal_of, unless}
use Rattle.sheet_form.specs.Sheet.{Sheet, sheet_read}
use Rattle.write_line.specs.Record.{record_line}
use Rattle.write_measure.specs.Record.{faults, fault_reasons}
use Rattle.base_buffer.proofs.AnswerLaws.{lays_one}
use Rattle.base_scan.proofs as base_scan
use Rattle.base_words.proofs as base_words
use Rattle.base_numbers.proofs as base_numbers
use Rattle.base_refusals.proofs as base_refusals
use Rattle.base_buffer.proofs as base_buffer
use Rattle.read_numbers.proofs as read_numbers
use Rattle.write_decimals.proofs as write_decimals
use Rattle.percent_sets.proofs as percent_sets
use Rattle.percent_decode.proofs as percent_decode
use Rattle.percent_encode.proofs as percent_encode
use Rattle.write_line.proofs as write_line
use Rattle.write_measure.proofs as write_measure
use Rattle.read_score.proofs as read_score
use Rattle.read_tokens.proofs as read_tokens
use Rattle.read_columns.proofs as read_columns
use Rattle.sheet_form.proofs as sheet_form
use Rattle.sheet_sections.proofs as sheet_sections
use Rattle.read_judge.proofs as read_judge
use Rattle.write_texts.proofs as write_texts
use Rattle.c_answers.proofs as c_answers
use Rattle.promise_calls.specs.Blocks.{Blocks}
use Rattle.promise_calls.proofs.DoesLaws.{told, also, first, both}

pub blocks : Blocks
blocks =
    record {
      find = first (λ _ (given, _) left r. r ≤ length given.now) (λ M. base_scan.find.Met.met);
      find_two = first (λ _ (given, _) left r. (r.first ≤ length given.now) × (r.second ≤ length given.now)) (λ M. base_scan.find_two.Met.met);
      find_on = told (λ M. base_scan.find_on.Met.met);
      find_last = told (λ M. base_scan.find_last.Met.met);
      marks = told (λ M. base_scan.marks.Met.met);
      part = told (λ M. base_scan.part.Met.met);
      text = told (λ M. base_scan.text.Met.met);
      is_dot = told (λ M. base_words.is_dot.Met.met);
      is_same = told (λ M. base_words.is_same.Met.met);
      is_space = told (λ M. base_words.is_space.Met.met);
      find_space = first (λ _ (s, _) left r. r ≤ length s.now) (λ M. base_words.find_space.Met.met);
      find_ink = first (λ _ (s, _) left r. r ≤ length s.now) (λ M. base_words.find_ink.Met.met);
      next_word = told (λ M. base_words.next_word.Met.met);
      least = told (λ M. base_numbers.least.Met.met);
      either = told (λ M. base_numbers.either.Met.met);
      refusal_number = told (λ M. base_refusals.Refusal.number.Met.met);
      error_number = told (λ M. base_buffer.WriteError.number.Met.met);
      lay_byte = record { does = λ M. base_buffer.lay_byte.Met.met; one = lays_one };
      lay = record { does = λ M. base_buffer.lay.Met.met; one = lays_one };
      lay_decimal = record { does = λ M. write_decimals.lay_decimal.Met.met; one = lays_one };
      lay_decoded = record { does = λ M. percent_decode.lay_decoded.Met.met; one = lays_one };
      lay_encoded = record { does = λ M. percent_encode.lay_encoded.Met.met; one = lays_one };
      lay_count = record { does = λ M. sheet_sections.lay_count.Met.met; one = lays_one };
      lay_section = record { does = λ M. sheet_sections.lay_section.Met.met; one = lays_one };
      lay_decoded_section = record { does = λ M. sheet_sections.lay_decoded_section.Met.met; one = lays_one };
      put_decimal = record {
        does = λ M 𝓤 𝓛 𝓜 𝓡 w S l (g, d) has. write_decimals.put_decimal.Met.met 𝓤 𝓛 𝓜 𝓡 w S l g d has;
        one = λ {S} {g} p q. (refl, g.0.laws.one _ _ _ _ p q);
      };
      put_decoded = record {
        does = λ M 𝓤 𝓛 𝓜 𝓡 w S l (g, d) has. percent_decode.put_decoded.Met.met 𝓤 𝓛 𝓜 𝓡 w S l g d has;
        one = λ {S} {g} p q. (refl, g.0.laws.one _ _ _ _ p q);
      };
      put_encoded = record {
        does = λ M 𝓤 𝓛 𝓜 𝓡 w S l (g, d) has. percent_encode.put_encoded.Met.met 𝓤 𝓛 𝓜 𝓡 w S l g d has;
        one = λ {S} {g} p q. (refl, g.0.laws.one _ _ _ _ p q);
      };
      put_line = both (λ S (_, (_, (g, _))) κs (sheet, _) b r. r ≡ is_some (sheet_read sheet.now))
          (λ S (_, (_, (g, _))) κs (sheet, (start, (end, (strand, (phase, (sink, _)))))) (_, (_, (_, (_, (_, (left, _)))))) r.
          g.took (record_line sheet.now start end strand phase) sink.now left.now)
          (λ M 𝓤 𝓛 𝓜 𝓡 w S l (g, (d, (h, e))) (m, n). write_line.put_line.Met.met 𝓤 𝓛 𝓜 𝓡 w S l g d h e m n)
          (λ S g κs a b b' r r' p q. (p.0 ∙ sym q.0, g.1.1.0.laws.one _ _ _ _ p.1 q.1));
      is_form = told (λ M. write_line.is_form.Met.met);
      count_line = told (λ M. write_line.count_line.Met.met);
      fault = first
          (λ _ (sheet, (start, (end, (strand, (phase, _))))) left r.
          (s : Sheet) → sheet_read sheet.now ≡ Some s → r ≡ unless (refusal_of (fault_reasons (faults (Some s) start end strand phase))) (tt {0}))
          (λ M. write_measure.fault.Met.met);
      decimal_len = also (λ _ a left r. r ≤ 20) (λ M. write_decimals.decimal_len.Met.met);
      decoded_len = also (λ _ (s, _) left r. r ≤ length s.now) (λ M. percent_decode.decoded_len.Met.met);
      count_escaped = also (λ _ (_, (s, _)) left r. r ≤ length s.now) (λ M. percent_encode.count_escaped.Met.met);
      encoded_len = also (λ _ (_, (s, _)) left r. r ≤ 3 * length s.now) (λ M. percent_encode.encoded_len.Met.met);
      table = told (λ M. percent_sets.table.Met.met);
      classes = told (λ M. percent_sets.classes.Met.met);
      escaped = told (λ M. percent_sets.escaped.Met.met);
      escaped_by = told (λ M. percent_sets.escaped_by.Met.met);
      decodes_to = told (λ M. percent_decode.decodes_to.Met.met);
      position = told (λ M. read_numbers.position.Met.met);
      region_position = told (λ M. read_numbers.region_position.Met.met);
      version_part = told (λ M. read_numbers.version_part.Met.met);
      is_score = told (λ M. read_score.is_score.Met.met);
      score = first (λ _ (token, _) left r. length r.now ≤ length token.now) (λ M. read_judge.score.Met.met);
      strand_number = told (λ M. read_tokens.strand_number.Met.met);
      strand_byte = told (λ M. read_tokens.strand_byte.Met.met);
      phase_number = told (λ M. read_tokens.phase_number.Met.met);
      phase_byte = told (λ M. read_tokens.phase_byte.Met.met);
      own = told (λ M. read_columns.own.Met.met);
      place_in = told (λ M. read_columns.place_in.Met.met);
      text_in = first (λ _ (line, _) left r. length r.now ≤ length line.now) (λ M. read_columns.text_in.Met.met);
      count_at = told (λ M. sheet_form.count_at.Met.met);
      section_at = told (λ M. sheet_form.section_at.Met.met);
      is_long = told (λ M. write_texts.is_long.Met.met);
      breaks = told (λ M. write_texts.breaks.Met.met);
      is_spaced = told (λ M. write_texts.is_spaced.Met.met);
      is_unfit = told (λ M. write_texts.is_unfit.Met.met);
      bounds_in = told (λ M. c_answers.bounds_in.Met.met);
      bounds_out = told (λ M. c_answers.bounds_out.Met.met);
      no_bounds = told (λ M. c_answers.no_bounds.Met.met);
      position_of = told (λ M. c_answers.position_of.Met.met);
      written_of = told (λ M. c_answers.written_of.Met.met);
    }
