-- Samples, computed. Assumes nothing.
use mathlib.Core.Path.{◌≡◌, refl}
use Rattle.base_lists.specs.Bytes.{ascii}
use Rattle.base_words.specs.Same.{same, is_dot}
use Rattle.percent_coding.specs.Percent.{is_hex, hex_value, decoded}
use Rattle.read_attributes.specs.Attributes.{tag_after, walk_from}
use Rattle.std.specs.Prelude.{Some, None, Ok, Err}
use Rattle.base_refusals.specs.declared.Refusal.TheVariants as refusal
use Rattle.read_lookup.specs.Lookup.{lookup_in, lookup, find_in, find_tag}

-- `b;c` is found, and `a` before a refusal; a tag that is absent, and one that 5 comes before
samples :
    (lookup (ascii "a=1;b;c=2") (ascii "b;c") ≡ Ok (Some (ascii "2")))
    × (find_tag (ascii "a=1;b;c=2") (ascii "b;c") ≡ Ok (Some (record { start = 8; end = 9 })))
    × (find_tag (ascii "a=1;b") (ascii "a") ≡ Ok (Some (record { start = 2; end = 3 })))
    × (find_tag (ascii "a=1;b;c=2") (ascii "b") ≡ Ok None)
    × (find_tag (ascii "a=1;b") (ascii "b") ≡ Err refusal.Attribute)
unfolding is_hex hex_value decoded same is_dot tag_after walk_from lookup_in find_in find_tag
samples = (refl, refl, refl, refl, refl)
