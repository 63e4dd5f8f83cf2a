-- Samples of RULES 14, computed. Assumes nothing.
use Rattle.std.specs.Prelude.{◌≡◌, [], None, Ok}
use Rattle.std.proofs.Common.{refl}
use Rattle.base_lists.specs.Bytes.{ascii, sans}
use Rattle.base_refusals.proofs.RefusalLaws.{◌gives◌}
use Rattle.base_scan.specs.Find.{index}
use Rattle.read_numbers.specs.Number.{all_digits, some_digits, digits_value_after, numeral}
use Rattle.read_version.specs.GffVersion.{patch_of, minor_of, version_of}

samples :
    (version_of [] gives 6)
    × (version_of (ascii "3.1.26.4") gives 9)
    × (version_of (ascii "3.") gives 8)
    × (version_of (ascii "+3") ≡ Ok (record { major = 3; minor = None; patch = None }))
unfolding version_of minor_of patch_of index numeral some_digits all_digits digits_value_after sans
samples = ((_, refl, refl), (_, refl, refl), (_, refl, refl), refl)
