-- `put_word`: a space, and the text behind it. Assumes nothing.
use Rattle.write_directive.proofs.pieces.put_word.Goals as goal

pub returns : goal.returns
returns g c = g.S.Sink.laws.joins _ _ _ _ _ c.byte.ensures c.text.ensures
