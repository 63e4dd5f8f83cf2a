-- The numbers of a value fit their types. Assumes nothing.
use native.Mathlib.Omega.{arith}
use mathlib.Core.List.{List}
use mir.Val.{Val}
use denote.Builtin as builtin
use denote.Laws.{Is}
use denote.Enum.Declared.{row}
use Rattle.std.specs.Prelude.{ℕ, Option}
use Rattle.std.specs.contracts.option.Option as option_type
use Rattle.std.specs.declared.option.Option.TheVariants as option
use Rattle.write_directive.specs.declared.directive.Value.{Value}
use Rattle.write_directive.specs.declared.directive.Value.TheVariants.{None, Text, Version, Region, Build}
use Rattle.write_directive.specs.contracts.directive.Value as value_type
use Rattle.write_directive.specs.Reading.{Within, Sized}

-- each number has its own among the machine's values vs that stand for it, which fits its bits
within : (p : Option ℕ) (vs : List Val) → Is (row (option_type.the_type builtin.u32)) p vs → Within p
within (option.Some n) vs h = omega (arith, h.1.1.1.1.0.1)
within option.None vs h = tt

pub sized : (v : Value) (vs : List Val) → Is (row value_type.the_type) v vs → Sized v
unfolding Sized
sized None vs h = tt
sized Text vs h = tt
sized (Version v) vs h =
    let f = h.1.1.1.1.0.1.1 in
    (omega (arith, f.0.1), within v.minor _ f.1.0, within v.patch _ f.1.1.0)
sized (Region start end) vs h = let f = h.1.1.1.1 in (omega (arith, f.0.1), omega (arith, f.1.0.1))
sized Build vs h = tt
