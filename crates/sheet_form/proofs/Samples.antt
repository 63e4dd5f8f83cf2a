-- Samples, computed. Assumes nothing.
use Prim.Native.Nat.{ℕ}
use mathlib.Core.Path.{◌≡◌, refl}
use mathlib.Core.List.{List, [], ◌∷◌, ◌++◌, flat_map}
use lib.ListN.{replicate}
use Rattle.std.specs.Prelude.{Some, None}
use Rattle.base_lists.specs.Bytes.{ascii}
use Rattle.sheet_form.specs.Reader.{read_count, times, times_some, counted, counted_some}
use Rattle.sheet_form.specs.Sheet.{Sheet, read_attribute, read_sheet, ended, sheet_read, count_of, section_of, counted_of}
use Rattle.sheet_form.specs.Sheet.{attribute_of, sheet_of}
use Rattle.sheet_form.specs.Cursor.{count_at, section_at}

-- no text, and no attribute
abbrev empty : Sheet
empty = record { name = []; source = []; type = []; score = []; attributes = [] }

abbrev zeros : ℕ → List ℕ
zeros n = replicate n 0

-- the column `sq0` and an attribute `a` with the value `1` and an empty one; and its bytes
abbrev small : Sheet
small =
    record { name = ascii "sq0"; source = []; type = []; score = []; attributes = record { tag = ascii "a"; values = ascii "1" ∷ [] ∷ [] } ∷ [] }

abbrev bytes : List ℕ
bytes =
    (3 ∷ zeros 3) ++ ascii "sq0" ++ zeros 12
    ++ (1 ∷ zeros 3) ++ (1 ∷ zeros 3) ++ ascii "a" ++ (2 ∷ zeros 3) ++ (1 ∷ zeros 3) ++ ascii "1" ++ zeros 4

-- RULES 9.1: twenty zero bytes are the smallest sheet; refused are one byte less, one more, the empty sheet, an attribute with a value
-- count of 0, a count larger than the rest. A count is read low byte first, also at the largest, and not where it is cut off
samples :
    (sheet_read (zeros 20) ≡ Some empty)
    × (sheet_of empty ≡ zeros 20)
    × (sheet_read (zeros 19) ≡ None)
    × (sheet_read (zeros 21) ≡ None)
    × (sheet_read [] ≡ None)
    × (sheet_read (zeros 16 ++ (1 ∷ zeros 11)) ≡ None)
    × (sheet_read (1 ∷ zeros 19) ≡ None)
    × (sheet_read bytes ≡ Some small)
    × (sheet_of small ≡ bytes)
    × (count_at (0 ∷ 1 ∷ 2 ∷ 0 ∷ 0 ∷ []) 1 ≡ Some (513, 5))
    × (count_at (255 ∷ 255 ∷ 255 ∷ 255 ∷ []) 0 ≡ Some (4294967295, 4))
    × (count_at (zeros 4) 1 ≡ None) × (count_at (zeros 4) 9 ≡ None)
    × (section_at bytes 0 ≡ Some (record { start = 4; end = 7 }))
    × (section_at (255 ∷ 255 ∷ 255 ∷ 255 ∷ []) 0 ≡ None)
unfolding read_count times times_some counted counted_some read_attribute read_sheet ended count_of section_of counted_of attribute_of
    sheet_of count_at section_at flat_map
samples = (refl, refl, refl, refl, refl, refl, refl, refl, refl, refl, refl, refl, refl, refl, refl)
