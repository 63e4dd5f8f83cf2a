-- Samples, computed: 18446744073709551615 and 0. Assumes nothing.
use mathlib.Core.Path.{◌≡◌, refl}
use Rattle.base_lists.specs.Bytes.{ascii}
use Rattle.write_decimals.specs.Decimal.{digits, decimal}

samples :
    (decimal 18446744073709551615 ≡ ascii "18446744073709551615")
    × (decimal 0 ≡ ascii "0")
unfolding digits
samples = (refl, refl)
