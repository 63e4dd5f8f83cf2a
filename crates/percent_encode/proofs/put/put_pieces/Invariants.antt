-- `put_pieces`: what is left to take is the encoded text from the index on. Assumes nothing.
use Prim.Native.Nat.{◌≤◌}
use lib.ListN.{length, drop}
use Rattle.base_sink.proofs.StillLaws.{Still}
use Rattle.percent_coding.specs.Percent.{encoded}
use Rattle.percent_sets.specs.Sets.{escapes}
use Rattle.percent_encode.proofs.put.put_pieces.Given as goal

abbrev pub invariant-loop-b : goal.invariant-loop-b
invariant-loop-b g l =
    (l.b-index ≤ length l.s) × Still g.S.Sink.took (encoded (escapes l.set) l.s) l.initial.sink (encoded (escapes l.set) (drop l.b-index l.s)) l.sink
