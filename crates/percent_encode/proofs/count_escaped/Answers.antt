-- `count_escaped`: what is counted, and what is to count from the next byte on, are the whole. Assumes nothing.
use mathlib.Core.Path.{◌≡◌, refl, sym, ◌∙◌}
use mathlib.Core.Bool.{Bool, true, false, cond}
use mir.Val.{bool_byte}
use Prim.Native.Nat.{◌≤◌}
use native.Mathlib.Omega.{arith}
use lib.ListN.{get_or}
use Rattle.percent_sets.specs.Sets.{escapes}
use Rattle.percent_sets.proofs.ClassLaws.{by_classes}
use Rattle.percent_encode.proofs.CursorLaws.{count_next, count_end}
use Rattle.percent_encode.proofs.count_escaped.Goals as goal

-- a test as a number
as_number : (t : Bool) → (bool_byte t ≡ cond t 1 0) × (bool_byte t ≤ 1)
as_number true = (refl, omega arith)
as_number false = (refl, omega arith)

pub loop-b-init : goal.loop-b-init
loop-b-init c = (omega arith, omega arith, omega arith)

pub overflow_cast-n : goal.overflow_cast-n
overflow_cast-n c = omega (arith, (as_number c.escaped_by.result).1)

pub overflow_add-n : goal.overflow_add-n
overflow_add-n c = omega (arith, (as_number c.escaped_by.result).1)

pub loop-b-preserved : goal.loop-b-preserved
loop-b-preserved c =
    let l = c.loop-b in
    let a = c.args in
    let b = get_or a.s.now c.loop-b.b-index 0 in
    let rule = by_classes c.table-table.ensures a.set b (omega (arith, c.type_inv.s c.loop-b.b-index)) in
    let told : c.escaped_by.result ≡ escapes a.set b = c.escaped_by.ensures ∙ rule in
    let n = as_number c.escaped_by.result in
    let e : cond (escapes a.set b) 1 0 ≡ bool_byte c.escaped_by.result = rw (← told) (sym n.0) in
    let more = count_next (escapes a.set) a.s.now c.loop-b.b-index c.loop-b-test.true in
    (omega arith, omega (arith, n.1), omega arith)

pub returns : goal.returns
returns c =
    let l = c.loop-b in
    let a = c.args in
    let none = count_end (escapes a.set) a.s.now c.loop-b.b-index c.loop-b-test.false in (omega arith, omega arith)
