-- `many_stand`: nothing is escaped before i; the last window says the rest. Assumes nothing.
use mathlib.Core.Path.{refl, sym, ◌∙◌}
use native.Mathlib.Omega.{arith}
use Rattle.percent_coding.specs.Percent.{count_escaped}
use Rattle.percent_sets.specs.Sets.{escapes}
use Rattle.percent_sets.specs.declared.Set.TheVariants.{Attribute}
use Rattle.percent_encode.proofs.PlainLaws.{plain_not, none_on, plain_last}
use Rattle.percent_encode.proofs.plain.many_stand.Goals as goal

pub loop-i-init : goal.loop-i-init
unfolding count_escaped
loop-i-init c = (omega arith, refl)

pub returns-then-not-all_stand : goal.returns-then-not-all_stand
returns-then-not-all_stand c =
    sym
    (plain_not (escapes Attribute) c.loop-i.i 16 c.args.s.now
    (sym c.all_stand.ensures ∙ c.if-not-all_stand.true))

pub loop-i-preserved : goal.loop-i-preserved
loop-i-preserved c = (
  omega arith,
  none_on (escapes Attribute) c.loop-i.i 16 c.args.s.now c.loop-i.invariant.1
      (sym c.all_stand.ensures ∙ c.if-not-all_stand.false),
)

pub returns : goal.returns
returns c =
    c.all_stand-2.ensures
    ∙ plain_last (escapes Attribute) c.loop-i.i 16 c.args.s.now (omega arith) (omega arith) c.loop-i.invariant.1
