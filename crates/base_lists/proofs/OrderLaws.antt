-- The order of numbers, by cases, and the ends of a range. Assumes nothing.
use Prim.Native.Nat.{ℕ, ◌≤◌, ◌<◌}
use mathlib.Core.Path.{◌≡◌, refl}
use mathlib.Core.Logic.{◌⊎◌, inl, inr}
use mathlib.Core.Bool.{Bool, true, false}
use lib.Dec.{eqb, leb}
use native.Mathlib.Omega.{arith}
use borrow.Author.Tests.{eqb-false, leb-true, leb-false}
use Rattle.base_lists.specs.Bytes.{between}
use Rattle.base_lists.proofs.BoolLaws.{and_left, and_right}

pub le_or_lt : (a b : ℕ) → (a ≤ b) ⊎ (b < a)
le_or_lt a b = go (leb a b) refl
  where
    go : (t : Bool) → leb a b ≡ t → (a ≤ b) ⊎ (b < a)
    go true e = inl (leb-true a b e)
    go false e = inr (leb-false a b e)

-- a number that is not 0
pub some_number : (n : ℕ) → eqb n 0 ≡ false → 1 ≤ n
some_number n e = let h = eqb-false n 0 e in omega arith

-- what lies in a range lies between its ends
pub low_end : (low high x : ℕ) → between low high x ≡ true → low ≤ x
low_end low high x t = leb-true low x (and_left _ _ t)

pub high_end : (low high x : ℕ) → between low high x ≡ true → x ≤ high
high_end low high x t = leb-true x high (and_right (leb low x) _ t)
