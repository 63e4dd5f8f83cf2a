-- Samples of RULES 4.2, computed. Assumes nothing.
use mathlib.Core.Path.{◌≡◌, refl}
use mathlib.Core.Bool.{true, false}
use mathlib.Core.List.{[]}
use Rattle.base_lists.specs.Bytes.{ascii, sans}
use Rattle.base_scan.specs.Find.{index}
use Rattle.read_numbers.specs.Number.{all_digits, some_digits}
use Rattle.read_score.specs.Score.{is_exponent, is_fraction, is_score}

samples :
    (is_score (ascii "0") ≡ true)
    × (is_score (ascii "-1.5e+10") ≡ true)
    × (is_score (ascii "1e5") ≡ true)
    × (is_score (ascii "1.") ≡ false)
    × (is_score (ascii ".5") ≡ false)
    × (is_score (ascii "+1") ≡ false)
    × (is_score (ascii "1e") ≡ false)
    × (is_score [] ≡ false)
unfolding index all_digits some_digits sans is_exponent is_fraction is_score
samples = (refl, refl, refl, refl, refl, refl, refl, refl)
