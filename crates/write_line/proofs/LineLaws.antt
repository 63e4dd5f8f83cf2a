-- The length of a record's line, by its columns. Assumes nothing.
use native.Mathlib.Omega.{arith}
use mathlib.Core.Path.{◌≡◌}
use mathlib.Core.List.{List}
use Prim.Native.Nat.{ℕ, ◌+◌}
use lib.ListN.{length, length-append}
use Rattle.std.specs.Prelude.{Some}
use Rattle.write_decimals.specs.Decimal.{decimal}
use Rattle.percent_sets.specs.declared.Set.{Set}
use Rattle.percent_sets.specs.declared.Set.TheVariants.{Name, Column, Attribute}
use Rattle.read_attributes.specs.Written.{column}
use Rattle.sheet_form.specs.Sheet.{Sheet}
use Rattle.write_line.specs.Record.{score_column, columns, sheet_line}

module _ (encode : Set → List ℕ → List ℕ) (start end strand phase : ℕ) (s : Sheet) where
  pub length_line : length (sheet_line encode (Some s) start end strand phase)
      ≡ length (encode Name s.name) + length (encode Column s.source) + length (encode Column s.type)
      + length (decimal start) + length (decimal end) + length (score_column s.score) + length (column (encode Attribute)
      s.attributes) + 10
  unfolding columns
  length_line = simp length-append (omega arith)
