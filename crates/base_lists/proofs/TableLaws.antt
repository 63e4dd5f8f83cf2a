-- A rule that holds at each number below a bound, by one test that the checker computes. Assumes nothing.
use Prim.Native.Nat.{ℕ, zero, suc, ◌<◌}
use native.Mathlib.Omega.{arith}
use native.Mathlib.Decide.{ℕ_discrete}
use mathlib.Core.Path.{◌≡◌}
use mathlib.Core.Bool.{Bool, true, ◌&&◌}
use Rattle.base_lists.proofs.BoolLaws.{and_left, and_right}

-- the test f passes at each number below n
abbrev pub below : ℕ → (ℕ → Bool) → Bool
below zero f = true
below (suc n) f = f n && below n f

pub below_holds : (n : ℕ) (f : ℕ → Bool) → below n f ≡ true → (k : ℕ) → k < n → f k ≡ true
below_holds zero f e k h = absurd (omega arith)
below_holds (suc n) f e k h =
    elim (ℕ_discrete k n) [
      | yes p ↦ rw p (and_left (f n) (below n f) e)
      | no p ↦ below_holds n f (and_right (f n) (below n f) e) k (omega arith)
    ]
