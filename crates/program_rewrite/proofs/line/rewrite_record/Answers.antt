-- `rewrite_record`: the sheet written again, or unfolding's refusal. Assumes nothing.
use mathlib.Core.Path.{◌∙◌}
use Rattle.program_rewrite.proofs.RewriteLaws.{unfolds}
use Rattle.program_rewrite.proofs.line.rewrite_record.Goals as goal

pub returns-in-Ok : goal.returns-in-Ok
returns-in-Ok c = c.write_again.ensures ∙ rw c.part.ensures (unfolds c.unfold.ensures c.requires.0 c.in-Ok.is)

pub returns-in-Err : goal.returns-in-Err
returns-in-Err c = c.refuse.ensures ∙ unfolds c.unfold.ensures c.requires.0 c.in-Err.is
