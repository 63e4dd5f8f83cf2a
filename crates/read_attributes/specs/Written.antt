-- Attributes as they are written (RULES 8.2; GFF3, Column 9, attributes): the tag, `=`, the values with `,` between them; attributes with
-- `;` between them; no attributes is `.`. Each tag and each value is encoded, by any encoder. Assumes nothing: these are definitions.
use Rattle.std.specs.Prelude.{ℕ, List, [], ◌∷◌, ◌++◌, map, ◌≢◌}
use Rattle.base_lists.specs.Bytes.{Every, Bytes, comma, dot, semicolon, equals}
use Rattle.read_values.specs.Pieces.{joined}
use Rattle.read_attributes.specs.Attributes.{Attribute}

-- an attribute that can be written: bytes, and a value at least
pub record Writable (a : Attribute) : Type 0 where
  pub tag_bytes : Bytes a.tag
  pub value_bytes : Every Bytes a.values
  pub a_value : a.values ≢ []

module _ (encode : List ℕ → List ℕ) where
  -- the values of an attribute
  abbrev pub raw : Attribute → List ℕ
  raw a = joined comma (map encode a.values)

  -- one attribute
  unfoldable pub written : Attribute → List ℕ
  written a = encode a.tag ++ equals ∷ raw a

  -- column 9
  unfoldable pub column : List Attribute → List ℕ
  column [] = dot ∷ []
  column (a ∷ more) = joined semicolon (map written (a ∷ more))
