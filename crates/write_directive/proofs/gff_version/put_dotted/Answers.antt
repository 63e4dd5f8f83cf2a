-- `put_dotted`: a dot and the digits behind it, or nothing. Assumes nothing.
use Rattle.write_directive.specs.Version.{dotted}
use Rattle.write_directive.proofs.gff_version.put_dotted.Goals as goal

pub returns-in-Some : goal.returns-in-Some
unfolding dotted
returns-in-Some g c = rw c.in-Some.is (g.S.Sink.laws.joins _ _ _ _ _ c.byte.ensures c.put_decimal.ensures)

pub returns-in_default : goal.returns-in_default
unfolding dotted
returns-in_default g c = rw c.in_default.is (g.S.Sink.laws.nothing _)
