-- `rewrite` is safe and ends: each turn hands out a line, and the cursor moves on. Assumes nothing.
use Rattle.std.proofs.Common.{arith}
use Rattle.read_lines.proofs.StepLaws.{meets}
use Rattle.program_rewrite.proofs.rewrite.Goals as goal

pub loop-place-smaller : goal.loop-place-smaller
loop-place-smaller g c =
    let h = meets _ _ c.next_line.ensures c.in-Some.is in
    omega arith
