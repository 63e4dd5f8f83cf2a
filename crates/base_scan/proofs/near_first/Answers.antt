-- `near_first`: the window at the cursor has b, or it is sought behind it. Assumes nothing.
use mathlib.Core.Path.{◌∙◌}
use native.Mathlib.Omega.{arith}
use lib.Count.{trailing_le}
use Rattle.base_scan.proofs.MaskLaws.{window_hit, window_none}
use Rattle.base_scan.proofs.near_first.Goals as goal

pub overflow_cast-result : goal.overflow_cast-result
overflow_cast-result c = omega (arith, trailing_le 32 c.mask16-m.result)

pub overflow_add-result : goal.overflow_add-result
overflow_add-result c = omega (arith, trailing_le 32 c.mask16-m.result)

pub returns-then-m-ne0 : goal.returns-then-m-ne0
returns-then-m-ne0 c =
    let a = c.args in
    window_hit a.b a.at a.s.now (omega arith) c.mask16-m.ensures.0 c.if-m-ne0.true

pub returns : goal.returns
returns c =
    let a = c.args in
    c.find-2.ensures.first ∙ window_none a.b a.at a.s.now (omega arith) c.mask16-m.ensures.0 c.if-m-ne0.false
