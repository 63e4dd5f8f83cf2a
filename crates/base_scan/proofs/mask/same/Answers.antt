-- `same`: a test as a number. Assumes nothing.
use mathlib.Core.Path.{◌≡◌, refl}
use mathlib.Core.Bool.{Bool, true, false}
use mir.Val.{bool_byte}
use lib.Dec.{eqb}
use Rattle.base_lists.specs.Bit.{bit}
use Rattle.base_scan.proofs.MaskLaws.{bit_lt}
use Rattle.base_scan.proofs.mask.same.Goals as goal

as_number : (t : Bool) → bool_byte t ≡ bit t
unfolding bit
as_number true = refl
as_number false = refl

pub returns : goal.returns
returns c = let t = eqb c.args.x c.args.b in (as_number t, rw (as_number t) (bit_lt t))
