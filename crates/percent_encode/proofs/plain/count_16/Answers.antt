-- `count_16`: what is counted, and what is to count from the next byte on, are the whole. Assumes nothing.
use Prim.Native.Nat.{◌≤◌}
use native.Mathlib.Omega.{arith}
use mathlib.Core.Path.{◌≡◌, refl}
use mathlib.Core.Bool.{Bool, true, false, cond, not}
use mir.Val.{bool_byte}
use Rattle.percent_sets.specs.Sets.{escapes}
use Rattle.percent_sets.specs.declared.Set.TheVariants.{Attribute}
use Rattle.percent_encode.proofs.CursorLaws.{count_next, count_end}
use Rattle.percent_encode.proofs.plain.count_16.Goals as goal

-- a test turned round, as a number
turned : (t u : Bool) → t ≡ not u → (bool_byte (not t) ≡ cond u 1 0) × (bool_byte (not t) ≤ 1)
turned t true e = rw e (refl, omega arith)
turned t false e = rw e (refl, omega arith)

pub loop-b-init : goal.loop-b-init
loop-b-init c = (omega arith, omega arith)

pub overflow_add-n : goal.overflow_add-n
overflow_add-n c = omega (arith, (turned c.stands.result _ c.stands.ensures).1)

pub loop-b-preserved : goal.loop-b-preserved
loop-b-preserved c =
    let n = turned c.stands.result _ c.stands.ensures in
    let more = count_next (escapes Attribute) c.args.window.now c.loop-b.b-index (omega arith) in
    (omega (arith, n.1), omega (arith, n.0))

pub returns : goal.returns
returns c =
    let none = count_end (escapes Attribute) c.args.window.now c.loop-b.b-index (omega arith) in (omega arith, omega arith)
