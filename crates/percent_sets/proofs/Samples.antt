-- Samples, computed: what each set makes of a byte. Assumes nothing.
use mathlib.Core.Path.{◌≡◌, refl}
use Rattle.base_lists.specs.Bytes.{ascii}
use Rattle.percent_sets.specs.declared.Set.TheVariants.{Name, Column, Attribute}
use Rattle.percent_coding.specs.Percent.{hex_digit, escape, piece, encoded}
use Rattle.percent_sets.specs.Sets.{escapes}

-- a space, a semicolon and a tab in each set
encodes :
    (encoded (escapes Name) (ascii " ") ≡ ascii "%20")
    × (encoded (escapes Column) (ascii " ") ≡ ascii " ")
    × (encoded (escapes Column) (ascii ";") ≡ ascii ";")
    × (encoded (escapes Attribute) (ascii ";") ≡ ascii "%3B")
    × (encoded (escapes Column) (ascii "\t") ≡ ascii "%09")
unfolding escapes hex_digit escape piece encoded
encodes = (refl, refl, refl, refl, refl)
