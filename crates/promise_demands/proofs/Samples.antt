-- The samples that RULES 14 marks P hold, all of them: the checker computes each. Assumes nothing.
use mathlib.Core.Path.{refl}
use mathlib.Core.List.{flat_map}
use Rattle.base_lists.specs.Bytes.{Every, sans}
use Rattle.base_refusals.specs.declared.Refusal.TheVariants as refusal
use Rattle.base_words.specs.Same.{same, is_dot}
use Rattle.base_buffer.specs.Answer.{unless}
use Rattle.base_scan.specs.Find.{index, seek}
use Rattle.base_words.specs.Word.{is_space}
use Rattle.write_decimals.specs.Decimal.{digits}
use Rattle.read_numbers.specs.Number.{all_digits, some_digits, digits_value_after, numeral}
use Rattle.percent_coding.specs.Percent.{is_hex, hex_value, decoded, piece, encoded}
use Rattle.percent_sets.specs.Sets.{escapes}
use Rattle.read_kind.specs.Kind.{kind, directive_of}
use Rattle.read_tokens.specs.Tokens.{position_of}
use Rattle.read_score.specs.Score.{is_score}
use Rattle.read_columns.specs.Columns.{past_tab, ends, place_in}
use Rattle.read_values.specs.Pieces.{pieces_after}
use Rattle.read_attributes.specs.Attributes as column9
use Rattle.read_attributes.specs.Written as written9
use Rattle.read_version.specs.GffVersion.{patch_of, minor_of, version_of}
use Rattle.sheet_form.specs.Reader.{read_count, times, counted}
use Rattle.sheet_form.specs.Sheet.{read_sheet, ended, count_of, section_of, counted_of, sheet_of}
use Rattle.write_measure.specs.Record.{score_column, columns, record_reasons, record_line}
use Rattle.promise_demands.specs.Samples.{samples}

-- a sample, and the rest of the list
infixr 4 ◌also◌
abbrev ◌also◌ : {A B : Type 0} → A → B → A × B
◌also◌ a b = (a, b)

-- one line for each group of the list
pub samples_hold : Every (λ x. x.says) samples
unfolding index seek same is_dot is_space digits all_digits some_digits digits_value_after numeral sans is_hex hex_value decoded piece
    encoded escapes kind directive_of past_tab ends place_in position_of is_score pieces_after column9.tag_after column9.value_after
    column9.walk_from column9.attribute column9.attributes written9.column patch_of minor_of version_of read_count times counted
    read_sheet ended count_of section_of counted_of sheet_of unless score_column columns record_reasons record_line flat_map
samples_hold =
    (refusal.Columns, refl, refl) also (refl, refl)
    also refl also refl also refl also refl
    also refl also refl
    also refl also refl also refl
    also (refusal.Patch, refl, refl) also (refusal.Minor, refl, refl) also refl
    also refl also refl
    also refl also (refl, refl)
    also (refusal.Position, refl, refl) also refl also (refusal.Position, refl, refl)
    also tt
