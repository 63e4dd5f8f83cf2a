-- `put_sign`: a tab, and the byte behind it. Assumes nothing.
use Rattle.write_line.proofs.line.put_sign.Goals as goal

pub returns : goal.returns
returns g c = g.S.Sink.laws.joins _ _ _ _ _ c.byte.ensures c.byte-2.ensures
