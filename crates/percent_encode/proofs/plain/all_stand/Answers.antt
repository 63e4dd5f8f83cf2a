-- `all_stand`: what is known of the first j bytes of the window. Assumes nothing.
use mathlib.Core.Path.{◌≡◌, refl, sym}
use native.Mathlib.Omega.{arith}
use Rattle.percent_coding.specs.Percent.{count_escaped}
use Rattle.percent_sets.specs.Sets.{escapes}
use Rattle.percent_sets.specs.declared.Set.TheVariants.{Attribute}
use Rattle.percent_encode.proofs.PlainLaws.{plain_next}
use Rattle.percent_encode.proofs.plain.all_stand.Goals as goal

pub loop-j-init : goal.loop-j-init
unfolding count_escaped
loop-j-init c = (omega arith, refl)

pub loop-j-preserved : goal.loop-j-preserved
loop-j-preserved c =
    let a = c.args in
    let more = plain_next (escapes Attribute) a.at c.loop-j.j a.s.now (omega arith) in
    (omega arith, rw (c.stands-all.ensures, c.loop-j.invariant.1) (sym more))

pub returns : goal.returns
returns c =
    let e : c.loop-j.j ≡ c.args.n = omega arith in
    rw (← e) c.loop-j.invariant.1
