-- `past_blank`: each byte that was passed belongs to a blank line, so the place behind them is the same from there on. Assumes nothing.
use Prim.Native.Nat.{◌-◌}
use mathlib.Core.Path.{◌≡◌}
use lib.ListN.{length}
use Rattle.read_lines.specs.Blank.{past_blank}
use Rattle.read_lines.proofs.past_blank.Given as goal

abbrev pub invariant-loop-at : goal.invariant-loop-at
invariant-loop-at l =
    past_blank l.text l.from ≡ past_blank l.text l.at

abbrev pub decreases-loop-at : goal.decreases-loop-at
decreases-loop-at l =
    length l.text - l.at
