-- Which bytes each set escapes: RULES 6.3. Assumes nothing: these are definitions.
use Rattle.std.specs.Prelude.{ℕ, zero, suc, ◌+◌, Bool, cond, not, ◌||◌, List, [], ◌∷◌, leb, get_or}
use Rattle.base_lists.specs.Bytes.{between, among, ascii, percent, ampersand, comma, semicolon, equals}
use Rattle.percent_sets.specs.declared.Set.{Set}
use Rattle.percent_sets.specs.declared.Set.TheVariants.{Name, Column, Attribute}

-- columns 2 and 3, GFF3, Description of the Format: 0x00 to 0x1F, 0x7F and `%`; as in the Rust, also every byte from 0x80
abbrev pub column_set : ℕ → Bool
column_set x = between 0 31 x || among (127 ∷ percent ∷ []) x || leb 128 x

-- tags and values, GFF3, Column 9, attributes: also `;` `=` `&` `,`
abbrev pub attribute_set : ℕ → Bool
attribute_set x = column_set x || among (semicolon ∷ equals ∷ ampersand ∷ comma ∷ []) x

-- column 1, GFF3, Column 1, seqid: all but letters, digits and `.` `:` `^` `*` `$` `@` `!` `+` `_` `?` `-` `|`
abbrev pub name_set : ℕ → Bool
name_set x =
    not (between 65 90 x || between 97 122 x || between 48 57 x
    || among (ascii ".:^*$@!+_?-|") x)

-- whether a set escapes a byte
unfoldable pub escapes : Set → ℕ → Bool
escapes Name x = name_set x
escapes Column x = column_set x
escapes Attribute x = attribute_set x

-- ── the table ──

-- the class of a byte: how many of the sets escape it
abbrev pub class : ℕ → ℕ
class x = cond (name_set x) 1 0 + cond (attribute_set x) 1 0 + cond (column_set x) 1 0

-- the classes of n bytes from x on
abbrev pub classes_from : ℕ → ℕ → List ℕ
classes_from x zero = []
classes_from x (suc n) = class x ∷ classes_from (suc x) n

-- those of the 256 bytes
unfoldable pub classes : List ℕ
classes = classes_from 0 256

-- the least class that a set escapes
abbrev pub least_class : Set → ℕ
least_class Name = 1
least_class Attribute = 2
least_class Column = 3

-- whether a set escapes a byte, by a table of classes
abbrev pub escapes_by : List ℕ → Set → ℕ → Bool
escapes_by table set x = leb (least_class set) (get_or table x 0)
