-- Samples, computed: those of RULES 14, and examples of RFC 3986. Assumes nothing.
use mathlib.Core.Path.{◌≡◌, refl}
use Rattle.base_lists.specs.Bytes.{ascii}
use Rattle.percent_coding.specs.Percent.{is_hex, hex_value, decoded}

-- `%2541` decodes to `%41`, `%%41` to `%A`, and `%4` stays; `%2f` and `%2F` are one byte (section 2.1); `A%20B` (section 2.4 decodes once)
decodes :
    (decoded (ascii "%2541") ≡ ascii "%41")
    × (decoded (ascii "%%41") ≡ ascii "%A")
    × (decoded (ascii "%4") ≡ ascii "%4")
    × (decoded (ascii "%2f") ≡ ascii "/")
    × (decoded (ascii "%2F") ≡ ascii "/")
unfolding is_hex hex_value decoded
decodes = (refl, refl, refl, refl, refl)
