-- `find_two`: none of either where the first is not there, else the second behind it. Assumes nothing.
use mathlib.Core.Path.{◌≡◌, sym, ap, ◌∙◌}
use mathlib.Core.List.{List}
use Prim.Native.Nat.{ℕ, ◌+◌, ◌≤◌}
use native.Mathlib.Omega.{arith}
use lib.ListN.{length, take}
use lib.Seq.{take-length}
use Rattle.base_scan.specs.declared.Two.{Two}
use Rattle.base_scan.specs.Find.{is, found, found_two}
use Rattle.base_scan.proofs.FindLaws.{seek_end, seek_le}
use Rattle.base_scan.proofs.find_two.Goals as goal
use Rattle.base_scan.proofs.find_two.Goals.{Else-first-n}

whole : (l : List ℕ) → length (take (length l) l) ≡ length l
whole l = ap length (take-length l)

-- two places that are the two are within the text
are-two : (b c at : ℕ) {r : Two} (s : List ℕ) → r ≡ found_two b c at s
    → (r ≡ found_two b c at s) × ((r.first ≤ length s) × (r.second ≤ length s))
are-two b c at s e = (e, (rw e (seek_le (is b) at s), rw e (seek_le (is c) (found b at s + 1) s)))

-- behind the end there is nothing
none : (b c at : ℕ) (s : List ℕ) → found b at s ≡ length s → record { first = length s; second = length s } ≡ found_two b c at s
none b c at s e = rw (e, seek_end (is c) (length s + 1) s (omega arith))

inside : (c : Else-first-n)
    → let l = c.args.given.now in c.near_first-first.result + 1 ≤ length l
inside c =
    let first : (let a = c.args in c.near_first-first.result ≡ found a.b a.at a.given.now) = rw (take-length c.args.given.now) at c.near_first-first.ensures in
    let a = c.args in
    omega (arith, first, seek_le (is a.b) a.at a.given.now)

pub returns-then-n-at : goal.returns-then-n-at
returns-then-n-at c = let a = c.args in let both = are-two _ _ _ _ (none a.b a.c a.at a.given.now (seek_end (is a.b) a.at a.given.now c.if-n-at.true)) in record { places = both.0; within = both.1 }

pub slice_bounds-s-end : goal.slice_bounds-s-end
slice_bounds-s-end c = sym (whole c.args.given.now)

pub near_first-first-requires : goal.near_first-first-requires
near_first-first-requires c = omega (arith, whole c.args.given.now)

pub returns-then-first-n : goal.returns-then-first-n
returns-then-first-n c =
    let first : (let a = c.args in c.near_first-first.result ≡ found a.b a.at a.given.now) = rw (take-length c.args.given.now) at c.near_first-first.ensures in
    let a = c.args in let both = are-two _ _ _ _ (none a.b a.c a.at a.given.now (sym (first) ∙ c.if-first-n.true)) in record { places = both.0; within = both.1 }

pub overflow_add-first : goal.overflow_add-first
overflow_add-first c = omega (arith, inside (goal.at.overflow_add-first c).Else-first-n)

pub near_second-requires : goal.near_second-requires
near_second-requires c = omega (arith, inside (goal.at.near_second-requires c).Else-first-n, whole c.args.given.now)

pub returns : goal.returns
returns c =
    let first : (let a = c.args in c.near_first-first.result ≡ found a.b a.at a.given.now) = rw (take-length c.args.given.now) at c.near_first-first.ensures in
    let a = c.args in
    let second = rw (take-length a.given.now) at c.near_second.ensures in
    let two : record { first = c.near_first-first.result; second = c.near_second.result }
    ≡ found_two a.b a.c a.at a.given.now = rw (second, first) in let both = are-two _ _ _ _ two in record { places = both.0; within = both.1 }
