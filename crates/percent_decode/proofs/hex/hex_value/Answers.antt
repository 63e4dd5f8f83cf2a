-- `hex_value`: a byte lies in one of the three ranges of digits, or in none. Assumes nothing.
use Prim.Native.Nat.{ℕ, suc, ◌≤◌, ◌+◌, ◌-◌}
use native.Mathlib.Omega.{arith}
use mathlib.Core.Path.{◌≡◌, refl}
use mathlib.Core.Logic.{⊎_elim}
use mathlib.Core.Bool.{Bool, true, false, cond, ◌&&◌}
use lib.Dec.{eqb, ltb}
use borrow.Author.Tests.{eqb-true}
use Rattle.base_lists.specs.Bytes.{between}
use Rattle.base_lists.proofs.BoolLaws.{and_left, and_right, agree, agree_eq}
use Rattle.base_lists.proofs.OrderLaws.{low_end, high_end}
use Rattle.base_lists.proofs.TableLaws.{below, below_holds}
use Rattle.percent_coding.specs.Percent.{is_hex, hex_value}
use Rattle.percent_decode.specs.Inner.Unit.{Hex}
use Rattle.percent_decode.proofs.hex.hex_value.Goals as goal

-- whether r is what `Hex` says of x
abbrev is-worth : ℕ → ℕ → Bool
is-worth x r = agree (ltb r 16) (is_hex x) && eqb r (cond (is_hex x) (hex_value x) 16)

-- a range of digits, the lowest of which is worth `first`: one test, computed at each
ranged : (low high first : ℕ) → below (suc high - low) (λ k. is-worth (low + k) (first + k)) ≡ true → {x r : ℕ} → low ≤ x → x ≤ high
    → x + first ≡ r + low → Hex x r
ranged low high first passes {x} {r} l h e =
    let at : low + (x - low) ≡ x = omega arith in
    let worth : first + (x - low) ≡ r = omega arith in
    let t : is-worth x r ≡ true = simp (at, worth) at (below_holds (suc high - low) _ passes (x - low) (omega arith)) in
    record {
      digit = agree_eq (ltb r 16) (is_hex x) (and_left _ _ t);
      value = eqb-true r _ (and_right (agree (ltb r 16) (is_hex x)) _ t);
    }

other : {x : ℕ} → between 48 57 x ≡ false → between 65 70 x ≡ false → between 97 102 x ≡ false → Hex x 16
unfolding is_hex
other t u v = record { digit = rw (t, u, v); value = rw (t, u, v) }

pub overflow_sub-value : goal.overflow_sub-value
overflow_sub-value c = omega (arith, low_end)

pub overflow_sub-value-then-b-2 : goal.overflow_sub-value-then-b-2
overflow_sub-value-then-b-2 c = omega (arith, low_end)

pub overflow_sub-value-then-b-3 : goal.overflow_sub-value-then-b-3
overflow_sub-value-then-b-3 c = omega (arith, low_end)

pub returns-then-b-3 : goal.returns-then-b-3
unfolding is_hex hex_value
returns-then-b-3 c = ranged 97 102 10 refl (omega (arith, low_end)) (omega (arith, high_end)) (omega (arith, low_end))

pub returns-else-b-3 : goal.returns-else-b-3
unfolding is_hex hex_value
returns-else-b-3 c =
    ⊎_elim
    (λ p. rw p.value-is (ranged 65 70 10 refl (omega (arith, low_end)) (omega (arith, high_end)) (omega (arith, low_end))))
    (λ p.
    rw p.value-is
    (⊎_elim
    (λ q. rw q.value-is (ranged 48 57 0 refl (omega (arith, low_end)) (omega (arith, high_end)) (omega (arith, low_end))))
    (λ q. rw q.value-is (other q.if-b.false p.if-b-2.false c.if-b-3.false))
    c.if-b.branch-raw))
    c.if-b-2.branch-raw
