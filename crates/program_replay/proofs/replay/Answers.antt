-- `replay` is safe and ends: each turn hands out a line, and the cursor moves on. Assumes nothing.
use native.Mathlib.Omega.{arith}
use Rattle.read_lines.proofs.StepLaws.{hands_byte, meets}
use Rattle.program_replay.proofs.replay.Goals as goal

pub turn-requires : goal.turn-requires
turn-requires c = rw c.text.ensures (hands_byte (meets _ _ c.next_line.ensures c.in-Some.is))

pub loop-place-smaller : goal.loop-place-smaller
loop-place-smaller c =
    let h = meets _ _ c.next_line.ensures c.in-Some.is in
    omega arith
