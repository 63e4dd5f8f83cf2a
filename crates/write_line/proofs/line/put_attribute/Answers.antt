-- `put_attribute`: the tag, and then the values by what their count is. Assumes nothing.
use native.Mathlib.Omega.{arith}
use Rattle.percent_sets.specs.declared.Set.TheVariants.{Attribute}
use Rattle.percent_coding.specs.Percent.{encoded}
use Rattle.percent_sets.specs.Sets.{escapes}
use Rattle.sheet_form.specs.Sheet.{section}
use Rattle.sheet_form.proofs.CursorLaws.{count_meets}
use Rattle.sheet_form.proofs.PastLaws.{times_length, past_also, past_some, past_zero, past_cut, past_attribute, past_untagged}
use Rattle.write_line.proofs.LedLaws.{led_written}
use Rattle.write_line.proofs.line.put_attribute.Goals as goal

pub returns-in_err-behind : goal.returns-in_err-behind
returns-in_err-behind g c = rw c.from_residual.ensures (past_untagged _ c.args.from c.put_led.ensures c.in_err-behind.was)

pub returns-in_err-count : goal.returns-in_err-count
returns-in_err-count g c =
    rw c.from_residual-in_err-count.ensures
    (past_attribute _ c.args.from {Q = λ vs. ⊥} (λ t vs p q. absurd q) c.put_led.ensures c.in_ok-behind.was
    (past_cut _ c.in_ok-behind.behind (count_meets _ _ c.count_at.ensures c.in_err-count.was)))

pub returns-then-count-eq0 : goal.returns-then-count-eq0
returns-then-count-eq0 g c =
    past_attribute _ c.args.from {Q = λ vs. ⊥} (λ t vs p q. absurd q) c.put_led.ensures c.in_ok-behind.was
    (past_zero _ _ (count_meets _ _ c.count_at.ensures c.in_ok-count.was) (omega (arith, c.if-count-eq0.true)))

pub put_values-requires : goal.put_values-requires
put_values-requires g c = (count_meets _ _ c.count_at.ensures c.in_ok-count.was).inside

pub returns : goal.returns
returns g c =
    let a = c.args in
    let met = count_meets _ _ c.count_at.ensures c.in_ok-count.was in
    past_attribute _ a.from
    (λ t vs p q. rw (led_written (encoded (escapes Attribute)) a.lead t vs (λ e. c.if-count-eq0.false (omega (arith, q.1, e))))
    (g.S.Sink.laws.joins _ _ _ _ _ p q.0))
    c.put_led.ensures c.in_ok-behind.was
    (past_some _ _ met (omega (arith, c.if-count-eq0.false))
    (past_also (λ vs rest e. times_length section c.in_ok-count.count _ vs rest e) c.put_values.ensures))
