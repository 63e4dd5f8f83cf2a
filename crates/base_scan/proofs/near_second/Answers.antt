-- `near_second`: one of the two windows at the cursor has b, or it is sought behind them. Assumes nothing.
use mathlib.Core.Path.{◌≡◌, ◌∙◌}
use Prim.Native.Nat.{◌+◌}
use native.Mathlib.Omega.{arith}
use lib.Count.{trailing_le}
use Rattle.base_scan.specs.Find.{found}
use Rattle.base_scan.proofs.MaskLaws.{window_hit, window_none}
use Rattle.base_scan.proofs.near_second.Goals as goal
use Rattle.base_scan.proofs.near_second.Goals.{Else-m-ne0}

-- the first window has none
passed-one : (c : Else-m-ne0)
    → let a = c.args in found a.b (a.at + 16) a.s.now ≡ found a.b a.at a.s.now
passed-one c =
    let a = c.args in
    window_none a.b a.at a.s.now (omega arith) c.mask16-m.ensures.0 c.if-m-ne0.false

pub overflow_cast-result : goal.overflow_cast-result
overflow_cast-result c = omega (arith, trailing_le 32 c.mask16-m.result)

pub overflow_add-result : goal.overflow_add-result
overflow_add-result c = omega (arith, trailing_le 32 c.mask16-m.result)

pub returns-then-m-ne0 : goal.returns-then-m-ne0
returns-then-m-ne0 c =
    let a = c.args in
    window_hit a.b a.at a.s.now (omega arith) c.mask16-m.ensures.0 c.if-m-ne0.true

pub overflow_cast-result-then-w-ne0 : goal.overflow_cast-result-then-w-ne0
overflow_cast-result-then-w-ne0 c = omega (arith, trailing_le 32 c.mask16-w.result)

pub overflow_add-result-then-w-ne0-2 : goal.overflow_add-result-then-w-ne0-2
overflow_add-result-then-w-ne0-2 c = omega (arith, trailing_le 32 c.mask16-w.result)

pub returns-then-w-ne0 : goal.returns-then-w-ne0
returns-then-w-ne0 c =
    let a = c.args in
    window_hit a.b (a.at + 16) a.s.now (omega arith) c.mask16-w.ensures.0 c.if-w-ne0.true ∙ passed-one (goal.at.returns-then-w-ne0 c).Else-m-ne0

pub returns : goal.returns
returns c =
    let a = c.args in
    let on : a.at + 32 ≡ a.at + 16 + 16 = omega arith in
    c.find-2.ensures.first
    ∙ rw on
    (window_none a.b (a.at + 16) a.s.now (omega arith) c.mask16-w.ensures.0 c.if-w-ne0.false ∙ passed-one (goal.at.returns c).Else-m-ne0)
