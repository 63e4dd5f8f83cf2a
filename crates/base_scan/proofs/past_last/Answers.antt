-- `past_last`: no b stands from i on. Assumes nothing.
use mathlib.Core.Path.{◌≡◌, sym, ◌∙◌}
use Prim.Native.Nat.{◌+◌, ◌-◌, ◌≤◌}
use native.Mathlib.Omega.{arith}
use lib.Count.{count_leading_zeros, leading_le}
use Rattle.base_scan.specs.Find.{found}
use Rattle.base_scan.proofs.FindLaws.{seek_end}
use Rattle.base_scan.proofs.LastLaws.{window_last}
use Rattle.base_scan.proofs.MaskLaws.{window_none}
use Rattle.base_scan.proofs.past_last.Goals as goal

pub loop-i-init : goal.loop-i-init
loop-i-init c = (seek_end _ _ _ (omega arith), omega arith)

pub overflow_cast-result : goal.overflow_cast-result
overflow_cast-result c = omega (arith, leading_le 32 c.mask16-m.result)

pub overflow_sub-result-then-m-ne0 : goal.overflow_sub-result-then-m-ne0
overflow_sub-result-then-m-ne0 c = leading_le 32 c.mask16-m.result

pub overflow_add-result : goal.overflow_add-result
overflow_add-result c =
    let last : (let a = c.args in
    let n = 32 - count_leading_zeros 32 c.mask16-m.result in
    (n ≤ 16) × (found a.b (c.loop-i.i - 16 + n) a.s.now ≡ found a.b (c.loop-i.i - 16 + 16) a.s.now)) = (let a = c.args in
    window_last a.b (c.loop-i.i - 16) a.s.now (omega arith) c.mask16-m.ensures.0 c.mask16-m.ensures.1) in
    let h = last in omega arith

pub returns-then-m-ne0 : goal.returns-then-m-ne0
returns-then-m-ne0 c =
    let last : (let a = c.args in
    let n = 32 - count_leading_zeros 32 c.mask16-m.result in
    (n ≤ 16) × (found a.b (c.loop-i.i - 16 + n) a.s.now ≡ found a.b (c.loop-i.i - 16 + 16) a.s.now)) = (let a = c.args in
    window_last a.b (c.loop-i.i - 16) a.s.now (omega arith) c.mask16-m.ensures.0 c.mask16-m.ensures.1) in
    let k : c.loop-i.i - 16 + 16 ≡ c.loop-i.i = omega arith in
    let h = last in
    (h.1 ∙ rw k c.loop-i.invariant.0, omega arith)

pub loop-i-preserved : goal.loop-i-preserved
loop-i-preserved c =
    let a = c.args in
    let k : c.loop-i.i - 16 + 16 ≡ c.loop-i.i = omega arith in
    let none = window_none a.b (c.loop-i.i - 16) a.s.now (omega arith) c.mask16-m.ensures.0 c.if-m-ne0.false in
    (sym none ∙ rw k c.loop-i.invariant.0, omega arith)

pub returns : goal.returns
returns c = c.loop-i.invariant
