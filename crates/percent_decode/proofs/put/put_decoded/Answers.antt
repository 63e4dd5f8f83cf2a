-- `put_decoded`: what is left to take is the decoded text from i on. Assumes nothing.
use native.Mathlib.Omega.{arith}
use Rattle.base_sink.proofs.StillLaws.{still_less, still_none}
use Rattle.percent_decode.proofs.CursorLaws.{run_further, decoded_run, decoded_end}
use Rattle.percent_decode.proofs.put.put_decoded.Goals as goal

-- an escape, or a percent sign that stays
pub loop-i-preserved-then-s-i-eq37 : goal.loop-i-preserved-then-s-i-eq37
loop-i-preserved-then-s-i-eq37 g c =
    let unit = c.decode_at-unit.ensures in
    (unit.inside, still_less g.S.Sink.laws (rw unit.first at c.loop-i.invariant.1) c.byte.ensures)

-- a run, up to the next percent sign
pub loop-i-smaller : goal.loop-i-smaller
loop-i-smaller g c = omega (arith, run_further _ _ _ c.loop-i-test.true c.if-s-i-eq37.false c.next_sign-sign.ensures.first)

pub loop-i-preserved : goal.loop-i-preserved
loop-i-preserved g c =
    let itself = decoded_run c.loop-i.i _ c.args.s.now c.loop-i-test.true c.if-s-i-eq37.false c.next_sign-sign.ensures.first in
    (omega arith, still_less g.S.Sink.laws (rw itself at c.loop-i.invariant.1) (rw c.part.ensures at c.text.ensures))

pub returns : goal.returns
returns g c = still_none g.S.Sink.laws (rw (decoded_end c.args.s.now c.loop-i.i c.loop-i-test.false) at c.loop-i.invariant.1)
