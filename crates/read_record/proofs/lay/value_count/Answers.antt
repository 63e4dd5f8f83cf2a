-- `value_count`: what is counted, and the values from the cursor on, are all. Assumes nothing.
use Prim.Native.Nat.{◌+◌}
use native.Mathlib.Omega.{arith}
use mathlib.Core.Path.{◌≡◌, ap}
use mathlib.Core.List.{map}
use lib.ListN.{length}
use Rattle.percent_coding.specs.Percent.{decoded}
use Rattle.read_values.proofs.ValueLaws.{meets}
use Rattle.read_judge.proofs.ValuesLaws.{coming, coming_start, coming_next, values_few}
use Rattle.read_record.proofs.lay.value_count.Goals as goal

pub loop-next-init : goal.loop-next-init
loop-next-init c = rw (coming_start c.args.value.now c.new-cursor.result c.new-cursor.ensures) (omega arith)

pub overflow_add-n : goal.overflow_add-n
overflow_add-n c =
    let one : (let s = c.args.value.now in
    length (coming s c.loop-next.cursor) ≡ 1 + length (coming s c.in-Some.next)) = omega (arith, ap length (coming_next (meets _ _ c.next_value.ensures c.in-Some.is))) in
    omega (arith, one, values_few c.args.value.now)

pub loop-next-smaller : goal.loop-next-smaller
loop-next-smaller c =
    let one : (let s = c.args.value.now in
    length (coming s c.loop-next.cursor) ≡ 1 + length (coming s c.in-Some.next)) = omega (arith, ap length (coming_next (meets _ _ c.next_value.ensures c.in-Some.is))) in
    omega (arith, one)

pub loop-next-preserved : goal.loop-next-preserved
loop-next-preserved c =
    let one : (let s = c.args.value.now in
    length (coming s c.loop-next.cursor) ≡ 1 + length (coming s c.in-Some.next)) = omega (arith, ap length (coming_next (meets _ _ c.next_value.ensures c.in-Some.is))) in
    omega (arith, one)

pub returns : goal.returns
returns c = omega (arith, ap (λ l. length (map decoded l)) (meets _ _ c.next_value.ensures c.in_default.is))
