-- `put_pieces`: what is left to take is the encoded text from the index on. Assumes nothing.
use native.Mathlib.Omega.{arith}
use Rattle.base_sink.proofs.StillLaws.{still_less, still_none}
use Rattle.percent_sets.specs.Sets.{escapes}
use Rattle.percent_encode.proofs.CursorLaws.{encoded_next, encoded_end}
use Rattle.percent_encode.proofs.put.put_pieces.Goals as goal

pub loop-b-preserved : goal.loop-b-preserved
loop-b-preserved g c =
    let next = encoded_next (escapes c.args.set) c.args.s.now c.loop-b.b-index (omega (arith, c.loop-b-test.true)) in
    (omega (arith, c.loop-b-test.true), still_less g.S.Sink.laws (rw next at c.loop-b.invariant.1) c.put_piece.ensures)

pub returns : goal.returns
returns g c =
    let end = encoded_end (escapes c.args.set) c.args.s.now c.loop-b.b-index (omega (arith, c.loop-b-test.false)) in
    still_none g.S.Sink.laws (rw end at c.loop-b.invariant.1)
