-- Samples, computed. Assumes nothing.
use mathlib.Core.Path.{◌≡◌, refl}
use mathlib.Core.Option.{some}
use mathlib.Core.List.{[], ◌∷◌}
use Rattle.base_lists.specs.Bytes.{ascii}
use Rattle.base_words.specs.Same.{is_dot}
use Rattle.base_scan.specs.Find.{index, seek}
use Rattle.percent_coding.specs.Percent.{is_hex, hex_value, decoded}
use Rattle.std.specs.Prelude.{None, Ok, Err}
use Rattle.base_refusals.specs.declared.Refusal.TheVariants as refusal
use Rattle.read_values.specs.Pieces.{pieces_after}
use Rattle.read_attributes.specs.Attributes.{done, refused, then, tag_after, walk_from, walk, attribute, attributes}
use Rattle.read_attributes.specs.Step.{next_field}

-- RULES 5.2 to 5.4: `a=1;b;c=2` has tags `a` and `b;c`; `a=1;` has one; `a=1;b` has one, then 5; `=` has an empty tag and an empty value.
-- `a=x%2Cy` is one string `x,y`; `a=x,y` is two. `.` is done at any cursor, and a `.` behind a field is refused.
samples :
    (walk (ascii "a=1;b;c=2") ≡ then (ascii "a") (ascii "1") (then (ascii "b;c") (ascii "2") done))
    × (walk (ascii "a=1;") ≡ then (ascii "a") (ascii "1") done)
    × (walk (ascii "a=1;b") ≡ then (ascii "a") (ascii "1") refused)
    × (walk (ascii "=") ≡ then [] [] done)
    × (attributes (walk (ascii "a=x%2Cy")) ≡ some (record { tag = ascii "a"; values = ascii "x,y" ∷ [] } ∷ []))
    × (attributes (walk (ascii "a=x,y")) ≡ some (record { tag = ascii "a"; values = ascii "x" ∷ ascii "y" ∷ [] } ∷ []))
    × (next_field (ascii ".") 0 ≡ Ok None) × (next_field (ascii ".") 7 ≡ Ok None)
    × (next_field (ascii "a=1;.") 4 ≡ Err refusal.Attribute)
unfolding index seek is_hex hex_value decoded pieces_after tag_after is_dot walk_from attribute attributes next_field
samples = (refl, refl, refl, refl, refl, refl, refl, refl, refl)
