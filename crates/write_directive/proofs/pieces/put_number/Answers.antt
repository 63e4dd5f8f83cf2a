-- `put_number`: a space, and the digits behind it. Assumes nothing.
use Rattle.write_directive.proofs.pieces.put_number.Goals as goal

pub returns : goal.returns
returns g c = g.S.Sink.laws.joins _ _ _ _ _ c.byte.ensures c.put_decimal.ensures
