-- A test as a number. Assumes nothing.
use mathlib.Core.Path.{◌≡◌, refl}
use mathlib.Core.Bool.{Bool, true, false}
use mir.Val.{bool_byte}
use Rattle.base_lists.specs.Bit.{bit}

pub as_number : (t : Bool) → bool_byte t ≡ bit t
unfolding bit
as_number true = refl
as_number false = refl
