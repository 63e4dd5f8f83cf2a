-- `is_plain`: by windows of 16, of 8 or of 4 bytes, or all at once, on the same bytes. Assumes nothing.
use mathlib.Core.Path.{◌≡◌, sym, ap}
use mathlib.Core.Bool.{Bool, ◌&&◌}
use mathlib.Core.List.{List}
use Prim.Native.Nat.{ℕ, ◌*◌, ◌-◌, ◌≤◌}
use native.Mathlib.Omega.{arith}
use lib.ListN.{length, take, drop}
use lib.Seq.{take-length}
use Rattle.percent_sets.specs.Sets.{escapes}
use Rattle.percent_sets.specs.declared.Set.TheVariants.{Attribute}
use Rattle.percent_encode.proofs.PlainLaws.{plain, plain_two}
use Rattle.percent_encode.proofs.plain.is_plain.Goals as goal

whole : (l : List ℕ) → length (take (length l) l) ≡ length l
whole l = ap length (take-length l)

-- what two windows of the slice taken anew say
by_two : (n : ℕ) (l : List ℕ) {t u : Bool} → n ≤ length l → length l ≤ 2 * n
    → t ≡ plain (escapes Attribute) (take n (take (length l) l))
    → u ≡ plain (escapes Attribute) (take n (drop (length l - n) (take (length l) l))) → (t && u) ≡ plain (escapes Attribute) l
by_two n l fits h p q = rw (p, q, take-length l) (plain_two (escapes Attribute) n l fits h)

-- and all of it
by_one : (l : List ℕ) {t : Bool} → t ≡ plain (escapes Attribute) (take (length l) (take (length l) l)) → t ≡ plain (escapes Attribute) l
by_one l e = rw (take-length l, take-length l) at e

pub slice_bounds-s-end : goal.slice_bounds-s-end
slice_bounds-s-end c = sym (whole c.args.given.now)

pub many_stand-requires : goal.many_stand-requires
many_stand-requires c = omega (arith, whole c.args.given.now)

pub returns-then-n-ge16 : goal.returns-then-n-ge16
returns-then-n-ge16 c = rw take-length at c.many_stand.ensures

pub all_stand-requires : goal.all_stand-requires
all_stand-requires c = omega (arith, whole c.args.given.now)

pub all_stand-requires-then-n-ge8 : goal.all_stand-requires-then-n-ge8
all_stand-requires-then-n-ge8 c = omega (arith, whole c.args.given.now)

pub returns-then-n-ge8 : goal.returns-then-n-ge8
returns-then-n-ge8 c = by_two 8 _ (omega arith) (omega arith) c.all_stand.ensures c.all_stand-then-n-ge8.ensures

pub all_stand-requires-then-n-ge4 : goal.all_stand-requires-then-n-ge4
all_stand-requires-then-n-ge4 c = omega (arith, whole c.args.given.now)

pub all_stand-requires-then-n-ge4-2 : goal.all_stand-requires-then-n-ge4-2
all_stand-requires-then-n-ge4-2 c = omega (arith, whole c.args.given.now)

pub returns-then-n-ge4 : goal.returns-then-n-ge4
returns-then-n-ge4 c = by_two 4 _ (omega arith) (omega arith) c.all_stand-then-n-ge4.ensures c.all_stand-then-n-ge4-2.ensures

pub all_stand-requires-2 : goal.all_stand-requires-2
all_stand-requires-2 c = omega (arith, whole c.args.given.now)

pub returns : goal.returns
returns c = by_one _ c.all_stand-2.ensures
