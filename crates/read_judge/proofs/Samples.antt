-- Samples, computed. Assumes nothing.
use Rattle.std.specs.Prelude.{Ok, Err, ℕ}
use mathlib.Core.Path.{◌≡◌, refl}
use mathlib.Core.List.{List, ◌++◌, flat_map}
use lib.ListN.{replicate}
use Rattle.base_lists.specs.Bytes.{ascii, tab, sans}
use Rattle.base_words.specs.Same.{is_dot}
use Rattle.base_refusals.specs.declared.Refusal.TheVariants as refusal
use Rattle.base_buffer.specs.Answer.{unless}
use Rattle.base_scan.specs.Find.{index, seek}
use Rattle.read_numbers.specs.Number.{all_digits, some_digits, digits_value_after, numeral}
use Rattle.percent_coding.specs.Percent.{is_hex, hex_value, decoded}
use Rattle.read_tokens.specs.declared.strand.Strand.TheVariants as strand
use Rattle.read_tokens.specs.declared.phase.Phase.TheVariants as phase
use Rattle.read_tokens.specs.Tokens.{position_of, strand_of, phase_of}
use Rattle.read_score.specs.Score.{is_exponent, is_fraction, is_score}
use Rattle.read_columns.specs.Columns.{past_tab, ends, place_in}
use Rattle.read_values.specs.Pieces.{pieces_after}
use Rattle.read_attributes.specs.Attributes as column9
use Rattle.sheet_form.specs.Sheet.{count_of, section_of, counted_of, attribute_of, sheet_of}
use Rattle.read_judge.specs.Judge.{score_of_token, unfolded, numbers_of, judged}

-- columns 1 to 8, and the tab behind each
abbrev front : List ℕ
front = ascii "sq0\tlab\tgene\t8\t13\t.\t+\t.\t"

-- RULES 14: `a=1;b;c=2` has the tags `a` and `b;c`, so the sheet has 20 bytes of counts, 10 of names, and 14 and 16 of attributes;
-- `a=1;b` in column 9 gives 5, nine empty columns give 2, seven tabs 1
samples :
    (judged (front ++ ascii "a=1;b;c=2") ≡ Ok (record { start = 8; end = 13; strand = strand.Forward; phase = phase.None }, 60))
    × (judged (front ++ ascii "a=1;b") ≡ Err refusal.Attribute)
    × (judged (replicate 8 tab) ≡ Err refusal.Position)
    × (judged (ascii "a" ++ replicate 7 tab) ≡ Err refusal.Columns)
unfolding index seek all_digits some_digits digits_value_after numeral is_hex hex_value decoded past_tab ends place_in is_dot position_of
    strand_of phase_of sans is_exponent is_fraction is_score pieces_after column9.tag_after column9.value_after column9.walk_from
    column9.attribute column9.attributes count_of section_of counted_of attribute_of sheet_of score_of_token unfolded numbers_of unless
    flat_map
samples = (refl, refl, refl, refl)
