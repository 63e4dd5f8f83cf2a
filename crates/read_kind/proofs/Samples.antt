-- Samples, computed. Assumes nothing.
use mathlib.Core.Path.{refl}
use Rattle.std.specs.Prelude.{◌≡◌, None, Some}
use Rattle.base_lists.specs.Bytes.{ascii}
use Rattle.base_scan.specs.Find.{index, seek}
use Rattle.base_words.specs.Word.{is_space}
use Rattle.read_kind.specs.Kind.{kind, directive_of}

-- RULES 14: `##` has an empty key and no value; `## ` an empty key and an empty value
directives :
    (directive_of (ascii "##") ≡ Some (record { key = record { start = 2; end = 2 }; value = None }))
    × (directive_of (ascii "## ") ≡ Some (record { key = record { start = 2; end = 2 }; value = Some (record { start = 3; end = 3 }) }))
unfolding directive_of kind seek index is_space
directives = (refl, refl)
