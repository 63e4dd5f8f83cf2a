-- `refusal` answers the first reason, by the kind of the value. Assumes nothing.
use Rattle.write_directive.specs.Directive.{directive_reasons}
use Rattle.write_directive.specs.Judge.{reasons}
use Rattle.write_directive.proofs.directive.refusal.Goals as goal

pub returns-in-None : goal.returns-in-None
unfolding directive_reasons reasons
returns-in-None c =
    let d = c.default.ensures in
    rw c.in-None.is (rw (d.0, d.1.0, d.1.1.0, d.1.1.1.0, d.1.1.1.1) at c.refusal.ensures)

pub returns-in-Text : goal.returns-in-Text
unfolding directive_reasons
returns-in-Text c =
    let d = c.default-in-Text.ensures.1 in
    rw c.in-Text.is (rw (d.0, d.1.1.0, d.1.1.1, c.breaks.ensures, c.is_long.ensures) at c.refusal-in-Text.ensures)

pub returns-in-Version : goal.returns-in-Version
unfolding directive_reasons
returns-in-Version c = rw c.in-Version.is c.version_refusal.ensures

pub returns-in-Region : goal.returns-in-Region
unfolding directive_reasons
returns-in-Region c = rw c.in-Region.is c.region_refusal.ensures

pub returns-in-Build : goal.returns-in-Build
unfolding directive_reasons
returns-in-Build c = rw c.in-Build.is c.build_refusal.ensures
