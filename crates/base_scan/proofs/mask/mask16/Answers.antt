-- `mask16`: the digits of the vector's comparison. Assumes nothing.
use Rattle.std.proofs.Common.{◌≡◌, ℕ, ◌+◌, ◌-◌, ◌^◌, ◌%◌, ◌≤◌, ◌<◌, List, cond, eqb, arith, length, take, drop, length-drop, refl}
use mathlib.Core.List.{map}
use lib.Lanes.{mask_l, top, zip2}
use lib.Seq.{length-take-le, take_all}
use mir.Syntax.{w8, w32}
use mir.Val.{bits, hbits, Fits}
use Rattle.std.specs.Prelude.{replicate}
use Rattle.base_scan.specs.Mask.{mask}
use Rattle.base_scan.proofs.MaskLaws.{mask_lanes, mask_fits}
use Rattle.base_scan.proofs.mask.mask16.Goals as goal

-- what the library makes of a vector that is compared with b
abbrev digits : ℕ → List ℕ → ℕ
digits b xs = mask_l (map (top (hbits w8)) (zip2 (λ x y. cond (eqb x y) (2 ^ bits w8 - 1) 0) xs (replicate 16 b))) % 2 ^ 64

-- the bytes from `at` on, in the two ways in which a slice from there on is told
here : (p at : ℕ) (s : List ℕ) → p ≡ at → take 16 (drop p s) ≡ take 16 (drop at s)
here p at s e = rw e refl

behind : (p at : ℕ) (s : List ℕ) → p ≡ at → take 16 (take (length s - p) (drop p s)) ≡ take 16 (drop at s)
behind p at s e = rw (take_all (length s - p) (drop p s) (simp length-drop (omega arith)), e) refl

-- so of a window
module _ (b at : ℕ) (s xs : List ℕ) (inside : at + 16 ≤ length s) (e : take 16 xs ≡ take 16 (drop at s)) where
  long : length (take 16 (drop at s)) ≡ 16
  long = length-take-le 16 (drop at s) (simp length-drop (omega arith))

  read : digits b (take 16 xs) ≡ mask b (take 16 (drop at s))
  read = rw e (mask_lanes b 16 _ long (omega arith))

  narrow : digits b (take 16 xs) < 2 ^ 16
  narrow = rw read (mask_fits b 16 (take 16 (drop at s)) (omega (arith, long)))

  fits : Fits w32 (digits b (take 16 xs))
  fits = omega (arith, narrow)

-- of a window that begins at p
module _ (b at : ℕ) (s : List ℕ) (inside : at + 16 ≤ length s) where
  read_here : (p : ℕ) → p ≡ at → digits b (take 16 (drop p s)) ≡ mask b (take 16 (drop at s))
  read_here p e = read b at s _ inside (here p at s e)

  read_behind : (p : ℕ) → p ≡ at → digits b (take 16 (take (length s - p) (drop p s))) ≡ mask b (take 16 (drop at s))
  read_behind p e = read b at s _ inside (behind p at s e)

pub overflow_cast-result : goal.overflow_cast-result
overflow_cast-result c = let a = c.args in fits a.b a.at a.s.now _ c.requires (omega (arith, here, behind))

-- by what is done with the digits of the window at `at`, or by where the window begins
pub returns : goal.returns
returns c =
    let a = c.args in
    let told = read_here a.b a.at a.s.now c.requires a.at refl in
    let few = narrow a.b a.at a.s.now _ c.requires refl in
    let at_p = read_here a.b a.at a.s.now c.requires in
    let behind_p = read_behind a.b a.at a.s.now c.requires in (
      first_of (omega (arith, told, few), grind (arith, at_p, behind_p, few)),
      first_of (omega (arith, told, few), grind (arith, at_p, behind_p, few)),
    )
