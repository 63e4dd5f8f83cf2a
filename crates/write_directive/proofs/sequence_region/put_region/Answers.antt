-- `put_region`: name, start and end, each behind a space. Assumes nothing.
use Rattle.write_directive.specs.Region.{region_text}
use Rattle.write_directive.proofs.sequence_region.put_region.Goals as goal

pub returns : goal.returns
unfolding region_text
returns g c =
    let joins = g.S.Sink.laws.joins in
    joins _ _ _ _ _ c.put_word.ensures (joins _ _ _ _ _ c.put_number.ensures c.put_number-2.ensures)
