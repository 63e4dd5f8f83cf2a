-- How long a record's line is at most: no byte of the sheet makes more than three of the line, its counts among them. Assumes nothing.
use Prim.Native.Nat.{ℕ, ◌+◌, ◌*◌, ◌^◌, ◌≤◌, ◌<◌}
use native.Mathlib.Omega.{arith}
use mathlib.Core.Path.{◌≡◌, ap}
use Rattle.std.specs.Prelude.{Some}
use mathlib.Core.List.{List, [], ◌∷◌, map, flat_map}
use lib.ListN.{length, length-append}
use Rattle.base_lists.specs.Bytes.{Bytes, comma}
use Rattle.write_decimals.proofs.DecimalLaws.{length_decimal}
use Rattle.percent_sets.specs.declared.Set.{Set}
use Rattle.percent_sets.specs.declared.Set.TheVariants.{Name, Column, Attribute}
use Rattle.percent_coding.specs.Percent.{encoded}
use Rattle.percent_sets.specs.Sets.{escapes}
use Rattle.percent_sets.proofs.SetLaws.{coder_of}
use Rattle.read_values.specs.Pieces.{joined}
use Rattle.read_attributes.specs.Attributes as column9
use Rattle.read_attributes.specs.Written.{written, column}
use Rattle.sheet_form.specs.Sheet.{Sheet, section_of, attribute_of, sheet_read}
use Rattle.sheet_form.proofs.LengthLaws.{length_section, length_attribute, length_sheet}
use Rattle.sheet_form.proofs.SheetLaws.{of_read}
use Rattle.write_line.specs.Inner.Led.{led}
use Rattle.write_measure.specs.Record.{score_column, record_line}
use Rattle.write_line.proofs.LedLaws.{led_prefixed, led_column}
use Rattle.write_line.proofs.LineLaws.{length_line}

-- texts with a byte before each, by what each of them is on the sheet
led_few : {A : Type 0} (f w : A → List ℕ) → ((a : A) → 1 + length (f a) ≤ 3 * length (w a)) → (b c : ℕ) (l : List A)
    → length (led b c (map f l)) ≤ 3 * length (flat_map w l)
unfolding led flat_map
led_few f w h b c [] = omega arith
led_few f w h b c (a ∷ l) = simp length-append (omega (arith, h a, led_few f w h c c l))

-- a byte before each is at least one between them
joined_few : (c : ℕ) (ps : List (List ℕ)) → length (joined c ps) ≤ length (led c c ps)
unfolding led joined
joined_few c [] = omega arith
joined_few c (p ∷ ps) = simp length-append (omega (arith, ap length (led_prefixed c ps)))

module _ (encode : List ℕ → List ℕ) (few : (s : List ℕ) → length (encode s) ≤ 3 * length s) where
  written_few : (a : column9.Attribute) → 1 + length (written encode a) ≤ 3 * length (attribute_of a)
  unfolding written
  written_few a =
      let values = led_few encode section_of (λ v. omega (arith, few v, length_section v)) comma comma a.values in
      simp length-append (omega (arith, few a.tag, values, joined_few comma (map encode a.values), length_attribute a))

  column_few : (l : List column9.Attribute) → length (column encode l) ≤ 1 + 3 * length (flat_map attribute_of l)
  unfolding column
  column_few [] = omega arith
  column_few (a ∷ l) =
      omega (
        arith,
        led_few (written encode) attribute_of written_few 9 59 (a ∷ l),
        ap length (led_column encode (a ∷ l) (λ e. omega arith)),
      )

score_few : (s : List ℕ) → length (score_column s) ≤ 1 + length s
unfolding score_column
score_few [] = omega arith
score_few (x ∷ s) = omega arith

-- the line of a sheet
pub line_few : (sheet : List ℕ) (start end strand phase : ℕ) (s : Sheet) → Bytes sheet → start < 2 ^ 64 → end < 2 ^ 64
    → sheet_read sheet ≡ Some s → length (record_line sheet start end strand phase) ≤ 3 * length sheet
unfolding record_line
line_few sheet start end strand phase s bytes h k e =
    let few : (set : Set) (t : List ℕ) → length (encoded (escapes set) t) ≤ 3 * length t = λ set t. (coder_of set).few t in
    rw e
    (omega (
      arith,
      length_line (λ set. encoded (escapes set)) start end strand phase s,
      few Name s.name,
      few Column s.source,
      few Column s.type,
      length_decimal start h,
      length_decimal end k,
      score_few s.score,
      column_few (encoded (escapes Attribute)) (few Attribute) s.attributes,
      length_sheet s,
      ap length (of_read sheet s bytes e).1,
    ))
