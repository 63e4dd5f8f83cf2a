-- `put_decoded`: what is left to take is the decoded text from i on. Assumes nothing.
use Prim.Native.Nat.{◌-◌, ◌≤◌}
use lib.ListN.{length, drop}
use Rattle.base_sink.proofs.StillLaws.{Still}
use Rattle.percent_coding.specs.Percent.{decoded}
use Rattle.percent_decode.proofs.put.put_decoded.Given as goal

abbrev pub invariant-loop-i : goal.invariant-loop-i
invariant-loop-i g l = (l.i ≤ length l.s) × Still g.S.Sink.took (decoded l.s) l.initial.sink (decoded (drop l.i l.s)) l.sink

abbrev pub decreases-loop-i : goal.decreases-loop-i
decreases-loop-i g l = length l.s - l.i
