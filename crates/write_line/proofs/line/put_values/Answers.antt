-- `put_values`: what takes those that are left, from the cursor on, takes all of them. Assumes nothing.
use Prim.Native.Nat.{◌+◌, ◌-◌}
use native.Mathlib.Omega.{arith}
use mathlib.Core.Path.{◌≡◌}
use Rattle.base_lists.specs.Bytes.{comma}
use Rattle.percent_sets.specs.declared.Set.TheVariants.{Attribute}
use Rattle.percent_coding.specs.Percent.{encoded}
use Rattle.percent_sets.specs.Sets.{escapes}
use Rattle.sheet_form.specs.Sheet.{section}
use Rattle.sheet_form.proofs.PastLaws.{past_inside, past_stuck}
use Rattle.write_line.proofs.LoopLaws.{takes_more, takes_last}
use Rattle.write_line.proofs.line.put_values.Goals as goal

pub loop-init : goal.loop-init
loop-init g c = (c.requires, λ r q left e p. let all : left ≡ c.args.count = omega arith in rw all at p)

pub returns-in_err-from : goal.returns-in_err-from
returns-in_err-from g c =
    let l = c.loop in
    let left = c.args.count - l.counter in
    rw c.from_residual.ensures
    (l.invariant.1 _ _ left (omega (arith, c.loop-test.true)) (past_stuck section left (left - 1) l.from (omega (arith, c.loop-test.true)) c.put_led.ensures c.in_err-from.was))

pub loop-preserved : goal.loop-preserved
loop-preserved g c =
    let l = c.loop in (
      past_inside c.put_led.ensures c.in_ok-from.was,
      λ r q left e p. l.invariant.1 r q (left + 1) (omega arith)
          (takes_more g.S.Sink.laws section (encoded (escapes Attribute)) comma (left + 1) left l.from (omega arith) c.put_led.ensures c.in_ok-from.was p),
    )

pub returns : goal.returns
returns g c =
    let l = c.loop in
    l.invariant.1 _ _ 0 (omega (arith, c.loop-test.false)) (takes_last g.S.Sink.laws section (encoded (escapes Attribute)) l.lead comma 0 l.from (omega arith) l.invariant.0)
