-- `put_directive`: two bytes, the key and the rest, one after the other. Assumes nothing.
use Rattle.write_directive.proofs.directive.put_directive.Goals as goal

pub returns : goal.returns
returns g c =
    let joins = g.S.Sink.laws.joins in
    joins _ _ _ _ _ c.byte.ensures (joins _ _ _ _ _ c.byte-2.ensures (joins _ _ _ _ _ c.text.ensures c.put_tail.ensures))
