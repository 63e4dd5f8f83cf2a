-- `put_version`: major behind a space, and the parts with their dots. Assumes nothing.
use Rattle.write_directive.specs.Version.{version_text}
use Rattle.write_directive.proofs.gff_version.put_version.Goals as goal

pub returns : goal.returns
unfolding version_text
returns g c =
    let joins = g.S.Sink.laws.joins in
    joins _ _ _ _ _ c.put_number.ensures (joins _ _ _ _ _ c.put_dotted.ensures c.put_dotted-2.ensures)
