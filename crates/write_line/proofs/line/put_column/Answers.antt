-- `put_column`: `.` for no attributes, else the attributes behind their count. Assumes nothing.
use mathlib.Core.Path.{sym, ◌∙◌}
use Rattle.percent_sets.specs.declared.Set.TheVariants.{Attribute}
use Rattle.percent_coding.specs.Percent.{encoded}
use Rattle.percent_sets.specs.Sets.{escapes}
use Rattle.read_attributes.specs.Written.{column}
use Rattle.sheet_form.specs.Sheet.{read_attribute}
use Rattle.sheet_form.proofs.CursorLaws.{count_meets}
use Rattle.sheet_form.proofs.PastLaws.{times_length, past_also, past_weaken, past_all, past_counted, past_uncounted}
use Rattle.write_line.proofs.LedLaws.{led_column}
use Rattle.write_line.proofs.line.put_column.Goals as goal

pub returns-in_err-count : goal.returns-in_err-count
returns-in_err-count g c = rw c.from_residual.ensures (past_uncounted _ c.args.from (count_meets _ _ c.count_at.ensures c.in_err-count.was))

pub returns-then-count-eq0 : goal.returns-then-count-eq0
unfolding column
returns-then-count-eq0 g c =
    let met = count_meets _ _ c.count_at.ensures c.in_ok-count.was in
    past_counted _ _ met (past_all read_attribute _ _ c.if-count-eq0.true met.inside c.text.ensures)

pub put_attributes-requires : goal.put_attributes-requires
put_attributes-requires g c = (count_meets _ _ c.count_at.ensures c.in_ok-count.was).inside

pub returns : goal.returns
returns g c =
    past_counted _ _ (count_meets _ _ c.count_at.ensures c.in_ok-count.was)
    (past_weaken (λ l p. rw (led_column (encoded (escapes Attribute)) l (λ e. c.if-count-eq0.false (sym p.1 ∙ e))) at p.0)
    (past_also (λ l rest e. times_length read_attribute c.in_ok-count.count _ l rest e) c.put_attributes.ensures))
