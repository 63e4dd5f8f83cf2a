-- Samples of RULES 14, computed. Assumes nothing.
use Rattle.std.specs.Prelude.{◌≡◌, [], Ok}
use Rattle.std.proofs.Common.{refl}
use Rattle.base_lists.specs.Bytes.{ascii, sans}
use Rattle.base_refusals.proofs.RefusalLaws.{◌gives◌}
use Rattle.base_scan.specs.Find.{index, seek}
use Rattle.base_words.specs.Word.{is_space}
use Rattle.read_numbers.specs.Number.{all_digits, some_digits, digits_value_after, numeral}
use Rattle.read_directives.specs.GenomeBuild.{build_of}
use Rattle.read_directives.specs.SequenceRegion.{end_of, start_of, region_of}
use Rattle.read_directives.specs.Then.{word_then}

samples :
    (region_of [] gives 6) × (build_of [] gives 6)
    × (region_of (ascii " ") gives 10)
    × (region_of (ascii "sq0 8") gives 13)
    × (region_of (ascii "sq0 0 9") gives 12)
    × (region_of (ascii "sq0 x") gives 12)
    × (region_of (ascii "sq0 8 13") ≡ Ok (record { name = record { start = 0; end = 3 }; start = 8; end = 13 }))
    × (build_of (ascii " a  b c") ≡ Ok (record { source = record { start = 1; end = 2 }; name = record { start = 4; end = 5 } }))
    × (build_of (ascii "a") gives 16)
    × (build_of (ascii " ") gives 15)
unfolding region_of start_of end_of build_of word_then seek index is_space numeral some_digits all_digits digits_value_after sans
samples = ((_, refl, refl), (_, refl, refl), (_, refl, refl), (_, refl, refl), (_, refl, refl), (_, refl, refl), refl, refl, (_, refl, refl), (_, refl, refl))
