-- Samples of RULES 14, computed. Assumes nothing.
use mathlib.Core.Path.{◌≡◌, refl}
use mathlib.Core.List.{[]}
use Rattle.base_lists.specs.Bytes.{ascii, sans}
use Rattle.std.specs.Prelude.{Some, None}
use Rattle.read_numbers.specs.Number.{all_digits, some_digits, digits_value_after, numeral, position, region_position, version_part}

samples :
    (position (ascii "18446744073709551615") ≡ Some 18446744073709551615)
    × (position (ascii "18446744073709551616") ≡ None)
    × (position (ascii "0") ≡ None) × (position (ascii "+8") ≡ None) × (position (ascii "0008") ≡ Some 8) × (position [] ≡ None)
    × (region_position (ascii "+8") ≡ Some 8) × (region_position (ascii "0") ≡ None) × (region_position (ascii "-0") ≡ None) × (region_position (ascii "+") ≡ None)
    × (version_part (ascii "4294967295") ≡ Some 4294967295)
    × (version_part (ascii "4294967296") ≡ None)
    × (version_part (ascii "0") ≡ Some 0)
unfolding all_digits some_digits digits_value_after numeral sans
samples = (refl, refl, refl, refl, refl, refl, refl, refl, refl, refl, refl, refl, refl)
