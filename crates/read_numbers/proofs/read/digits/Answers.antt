-- `digits`: what is read is what the digits from i on come to behind those that made v. Assumes nothing.
use mathlib.Core.Path.{sym, ◌∙◌}
use mathlib.Core.Logic.{⊎_elim, inl, inr}
use Prim.Native.Nat.{◌+◌, ◌-◌, ◌*◌, ◌≤◌}
use native.Mathlib.Omega.{arith}
use borrow.Author.Tests.{ltb-true, ltb-false}
use lib.ListN.{get_or}
use Rattle.read_numbers.proofs.NumberLaws.{numeral_none, numeral_starts, onwards_next, onwards_other, onwards_over}
use Rattle.read_numbers.proofs.NumberLaws.{onwards_value, onwards_under}
use Rattle.read_numbers.proofs.read.digits.Goals as goal
use Rattle.read_numbers.proofs.read.digits.Goals.{Joined-else-v-safe}

-- the digit fits, by the cheap test or by the exact one
fits : (c : Joined-else-v-safe)
    → let a = c.args in
    c.loop-b.v * 10 + (get_or a.s.now c.loop-b.b-index 0 - 48) ≤ a.most
fits c = ⊎_elim (λ w. omega (arith, ltb-false)) (λ w. omega (arith, ltb-false)) c.else-v-safe.branch-raw

pub returns-then-s-eq0 : goal.returns-then-s-eq0
returns-then-s-eq0 c = sym (numeral_none _ _ c.args.s.now 0 (omega arith))

pub loop-b-init : goal.loop-b-init
loop-b-init c = (omega arith, numeral_starts _ _ c.args.s.now 0 (omega arith))

pub returns-then-b-lt48 : goal.returns-then-b-lt48
returns-then-b-lt48 c =
    sym (c.loop-b.invariant.1 ∙ onwards_other _ _ _ _ _ c.loop-b-test.true (⊎_elim (λ w. inl (omega arith))
    (λ w. inr (omega (arith, ltb-true))) c.then-b-lt48.branch-raw))

pub overflow_cast-d : goal.overflow_cast-d
overflow_cast-d c = omega (arith, ltb-false)

pub overflow_sub-most : goal.overflow_sub-most
overflow_sub-most c = omega (arith, ltb-false)

pub returns-then-v-most : goal.returns-then-v-most
returns-then-v-most c = sym (c.loop-b.invariant.1 ∙ onwards_over _ _ _ _ _ c.loop-b-test.true (omega (arith, ltb-false, ltb-true)))

pub overflow_mul-v : goal.overflow_mul-v
overflow_mul-v c = omega (arith, fits (goal.at.overflow_mul-v c).Joined-else-v-safe)

pub overflow_add-v : goal.overflow_add-v
overflow_add-v c = omega (arith, fits (goal.at.overflow_add-v c).Joined-else-v-safe)

pub loop-b-preserved : goal.loop-b-preserved
loop-b-preserved c = (
  fits (goal.at.loop-b-preserved c).Joined-else-v-safe,
  c.loop-b.invariant.1 ∙ onwards_next _ _ _ _ _ c.loop-b-test.true (omega (arith, ltb-false)) (omega (arith, ltb-false)),
)

pub returns-then-v-least : goal.returns-then-v-least
returns-then-v-least c = sym (c.loop-b.invariant.1 ∙ onwards_under _ _ _ _ _ c.loop-b-test.false c.if-v-least.true)

pub returns-else-v-least : goal.returns-else-v-least
returns-else-v-least c = sym (c.loop-b.invariant.1 ∙ onwards_value _ _ _ _ _ c.loop-b-test.false c.if-v-least.false c.loop-b.invariant.0)
