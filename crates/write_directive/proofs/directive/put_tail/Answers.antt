-- `put_tail`: by the kind of the value, its text behind a space, or nothing. Assumes nothing.
use Rattle.write_directive.specs.Directive.{tail}
use Rattle.write_directive.proofs.directive.put_tail.Goals as goal

pub returns-in-None : goal.returns-in-None
unfolding tail
returns-in-None g c = rw c.in-None.is (g.S.Sink.laws.nothing _)

pub returns-in-Text : goal.returns-in-Text
unfolding tail
returns-in-Text g c = rw c.in-Text.is c.put_word.ensures

pub returns-in-Version : goal.returns-in-Version
unfolding tail
returns-in-Version g c = rw c.in-Version.is c.put_version.ensures

pub returns-in-Region : goal.returns-in-Region
unfolding tail
returns-in-Region g c = rw c.in-Region.is c.put_region.ensures

pub returns-in-Build : goal.returns-in-Build
unfolding tail
returns-in-Build g c = rw c.in-Build.is c.put_build.ensures
