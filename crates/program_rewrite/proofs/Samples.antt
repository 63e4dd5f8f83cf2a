-- The program's sample of RULES 14, whole, computed from the definition. Assumes nothing.
use mathlib.Core.Path.{◌≡◌, refl}
use mathlib.Core.List.{flat_map}
use Rattle.base_lists.specs.Bytes.{ascii, sans}
use Rattle.base_scan.specs.Find.{index, seek}
use Rattle.base_words.specs.Same.{same, is_dot}
use Rattle.base_buffer.specs.Answer.{answer}
use Rattle.read_numbers.specs.Number.{all_digits, some_digits, digits_value_after, numeral}
use Rattle.write_decimals.specs.Decimal.{digits}
use Rattle.percent_coding.specs.Percent.{is_hex, hex_value, hex_digit, decoded, escape, piece, encoded}
use Rattle.percent_sets.specs.Sets.{escapes}
use Rattle.read_tokens.specs.Tokens.{strand_number, phase_number, position_of, strand_of, phase_of}
use Rattle.read_score.specs.Score.{is_exponent, is_fraction, is_score}
use Rattle.read_columns.specs.Columns.{past_tab, ends, place_in}
use Rattle.read_values.specs.Pieces.{pieces_after, prefixed, joined}
use Rattle.read_attributes.specs.Attributes as column9
use Rattle.read_attributes.specs.Written.{written, column}
use Rattle.sheet_form.specs.Reader.{read_count, times, times_some, counted, counted_some}
use Rattle.sheet_form.specs.Sheet.{read_attribute, read_sheet, ended, count_of, section_of, counted_of, attribute_of, sheet_of}
use Rattle.read_judge.specs.Judge as reading
use Rattle.write_measure.specs.Record as writing
use Rattle.read_kind.specs.Kind.{kind}
use Rattle.read_lines.specs.Lines.{chomped, unless_blank, lines_after, text}
use Rattle.program_rewrite.specs.Rewrite.{written_again, record_again, line_rewritten, rewritten}

-- the input's third line is `x`; the output has `b;c` as `b%3Bc`, and `! 1`
sample : rewritten (ascii "##gff-version 3\nsq0\tlab\tgene\t8\t13\t.\t+\t.\ta=1;b;c=2\nx\n")
    ≡ ascii "##gff-version 3\nsq0\tlab\tgene\t8\t13\t.\t+\t.\ta=1;b%3Bc=2\n! 1\n"
unfolding index seek same is_dot all_digits some_digits digits_value_after numeral digits is_hex hex_value hex_digit decoded escape piece
    encoded escapes kind chomped unless_blank lines_after text past_tab ends place_in strand_number phase_number position_of strand_of phase_of sans
    is_exponent is_fraction is_score pieces_after prefixed joined column9.tag_after column9.value_after column9.walk_from
    column9.attribute column9.attributes written column read_count times times_some counted counted_some read_attribute read_sheet ended
    count_of section_of counted_of attribute_of sheet_of reading.score_of_token reading.unfolded reading.numbers_of writing.record_reasons
    writing.score_column writing.columns writing.record_line answer written_again record_again line_rewritten rewritten flat_map
sample = refl
