-- `put_number`: a tab, and the digits behind it. Assumes nothing.
use Rattle.write_line.proofs.line.put_number.Goals as goal

pub returns : goal.returns
returns g c = g.S.Sink.laws.joins _ _ _ _ _ c.byte.ensures c.put_decimal.ensures
