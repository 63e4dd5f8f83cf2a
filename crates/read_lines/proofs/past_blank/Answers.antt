-- `past_blank`: each byte that was passed belongs to a blank line, so the place behind them is the same from there on. Assumes nothing.
use Rattle.std.proofs.Common.{rules}
use mathlib.Core.Path.{sym, ◌∙◌}
use Rattle.read_lines.proofs.BlankLaws.{past_next, past_here}
use Rattle.read_lines.proofs.past_blank.Goals as goal

pub loop-at-preserved : goal.loop-at-preserved
loop-at-preserved c = c.loop-at.invariant ∙ past_next c.args.text.now _ (search rules)

pub returns : goal.returns
returns c = sym (c.loop-at.invariant ∙ past_here c.args.text.now _ (search rules))
