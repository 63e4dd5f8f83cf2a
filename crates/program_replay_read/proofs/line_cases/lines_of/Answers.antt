-- `lines_of` is safe and ends: the cursor moves on. Assumes nothing.
use native.Mathlib.Omega.{arith}
use Rattle.read_lines.proofs.StepLaws.{meets}
use Rattle.program_replay_read.proofs.line_cases.lines_of.Goals as goal

pub loop-place-smaller : goal.loop-place-smaller
loop-place-smaller c =
    let h = meets _ _ c.next_line.ensures c.in-Some.is in
    omega arith
