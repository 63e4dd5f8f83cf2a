-- `find`: past the end at once, else by one of the two finders on the same bytes. Assumes nothing.
use mathlib.Core.Path.{◌≡◌, sym, ap}
use mathlib.Core.List.{List}
use Prim.Native.Nat.{ℕ, ◌≤◌}
use native.Mathlib.Omega.{arith}
use lib.ListN.{length, take}
use lib.Seq.{take-length}
use Rattle.base_scan.specs.Find.{is, found}
use Rattle.base_scan.proofs.FindLaws.{seek_end, seek_le}
use Rattle.base_scan.proofs.find.Goals as goal

-- what either finder answers of the slice taken anew
is_found : (b at : ℕ) {r : ℕ} (l : List ℕ) → r ≡ found b at (take (length l) l) → (r ≡ found b at l) × (r ≤ length l)
is_found b at l e = let f = rw take-length at e in (f, rw f (seek_le (is b) at l))

whole : (l : List ℕ) → length (take (length l) l) ≡ length l
whole l = ap length (take-length l)

pub returns-then-n-at : goal.returns-then-n-at
returns-then-n-at c = let a = c.args in record { first = sym (seek_end (is a.b) a.at a.given.now c.if-n-at.true); within = omega arith }

pub slice_bounds-s-end : goal.slice_bounds-s-end
slice_bounds-s-end c = sym (whole c.args.given.now)

pub find_many-requires : goal.find_many-requires
find_many-requires c = omega (arith, whole c.args.given.now)

pub returns-then-n-lt16 : goal.returns-then-n-lt16
returns-then-n-lt16 c = let both = is_found _ _ _ c.find_few.ensures in record { first = both.0; within = both.1 }

pub returns-else-n-lt16 : goal.returns-else-n-lt16
returns-else-n-lt16 c = let both = is_found _ _ _ c.find_many.ensures in record { first = both.0; within = both.1 }
