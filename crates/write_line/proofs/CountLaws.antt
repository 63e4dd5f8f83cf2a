-- How long a line is, by one whose positions have one digit; and of a text that is no sheet. Assumes nothing.
use native.Mathlib.Omega.{arith}
use mathlib.Core.Path.{◌≡◌, refl, sym, ap}
use mathlib.Core.Bool.{true, false, true≢false}
use Prim.Native.Nat.{ℕ, ◌+◌, ◌-◌, ◌^◌, min}
use mathlib.Core.List.{List, []}
use lib.ListN.{length}
use Rattle.std.specs.Prelude.{Option, None, Some, is_some}
use Rattle.write_decimals.specs.Decimal.{decimal}
use Rattle.write_decimals.proofs.DecimalLaws.{decimal_one, decimal_some}
use Rattle.percent_sets.specs.declared.Set.{Set}
use Rattle.sheet_form.specs.Sheet.{Sheet}
use Rattle.write_line.specs.Record.{sheet_line, sheet_count}
use Rattle.write_line.proofs.LineLaws.{length_line}

-- where there is a sheet, and so many bytes were counted
pub count_met : (encode : Set → List ℕ → List ℕ) (o : Option Sheet) (start end strand phase bytes : ℕ) → is_some o ≡ true
    → ((s : Sheet) → o ≡ Some s → bytes ≡ min (length (sheet_line encode o 0 0 strand phase)) (2 ^ 64 - 1))
    → Some (min (bytes + (length (decimal start) + length (decimal end) - 2)) (2 ^ 64 - 1))
    ≡ sheet_count o (sheet_line encode o start end strand phase)
count_met encode None start end strand phase bytes e h = absurd (true≢false (sym e))
count_met encode (Some s) start end strand phase bytes e h =
    let zero : length (decimal 0) ≡ 1 = ap length (decimal_one 0 (omega arith)) in
    let one = length_line encode 0 0 strand phase s in
    let all = length_line encode start end strand phase s in
    ap Some (omega (arith, h s refl, zero, one, all, decimal_some start, decimal_some end))

-- where there is none
pub count_none : (o : Option Sheet) (line : List ℕ) → is_some o ≡ false → None ≡ sheet_count o line
count_none None line e = refl
count_none (Some s) line e = absurd (true≢false e)

-- of a text that is no sheet the line is empty
pub no_line : (encode : Set → List ℕ → List ℕ) (o : Option Sheet) (start end strand phase : ℕ) → is_some o ≡ false
    → sheet_line encode o start end strand phase ≡ []
no_line encode None start end strand phase e = refl
no_line encode (Some s) start end strand phase e = absurd (true≢false e)
