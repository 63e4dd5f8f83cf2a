-- The field sheet, RULES 9.1: sections in a fixed order, each after its count: column 1, source, type, score (count 0: missing),
-- attributes. Assumes nothing: these are definitions.
use Rattle.std.specs.Prelude.{ℕ, ◌/◌, ◌%◌, length, Option, Some, None}
use mathlib.Core.List.{List, [], ◌∷◌, ◌++◌, flat_map}
use Rattle.read_attributes.specs.Attributes.{Attribute}
use Rattle.sheet_form.specs.Reader.{Taken, no_form, took, Reader, ◌>>=◌, give, byte, counted, counted_some}

pub record Sheet : Type 0 where
  pub name : List ℕ
  pub source : List ℕ
  pub type : List ℕ
  pub score : List ℕ
  pub attributes : List Attribute

-- ── read ──

abbrev pub section : Reader (List ℕ)
section = counted byte

-- "each attribute is a tag (count, bytes), then a value count of at least 1, then each value (count, bytes)"
unfoldable pub read_attribute : Reader Attribute
read_attribute = do
  tag ← section
  values ← counted_some section
  give (record { tag = tag; values = values })

-- "column 1, source, type, score, attributes"
unfoldable pub read_sheet : Reader Sheet
read_sheet = do
  name ← section
  source ← section
  type ← section
  score ← section
  attributes ← counted read_attribute
  give (record { name = name; source = source; type = type; score = score; attributes = attributes })

-- "nothing follows"
unfoldable pub ended : {A : Type 0} → Taken A → Option A
ended no_form = None
ended (took a []) = Some a
ended (took a (x ∷ s)) = None

-- where nothing was read, the refusal is 23
abbrev pub sheet_read : List ℕ → Option Sheet
sheet_read s = ended (read_sheet s)

-- ── written ──

-- the low four bytes of a number, the lowest first
unfoldable pub count_of : ℕ → List ℕ
count_of n = n % 256 ∷ n / 256 % 256 ∷ n / 65536 % 256 ∷ n / 16777216 % 256 ∷ []

-- a text after its count
unfoldable pub section_of : List ℕ → List ℕ
section_of s = count_of (length s) ++ s

-- things after their count
unfoldable pub counted_of : {A : Type 0} → (A → List ℕ) → List A → List ℕ
counted_of w l = count_of (length l) ++ flat_map w l

unfoldable pub attribute_of : Attribute → List ℕ
attribute_of a = section_of a.tag ++ counted_of section_of a.values

unfoldable pub sheet_of : Sheet → List ℕ
sheet_of s =
    section_of s.name ++ (section_of s.source ++ (section_of s.type ++ (section_of s.score ++ counted_of attribute_of s.attributes)))
