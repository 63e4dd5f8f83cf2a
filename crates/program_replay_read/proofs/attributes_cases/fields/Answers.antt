-- `fields` is safe and ends: the cursor moves on. Assumes nothing.
use native.Mathlib.Omega.{arith}
use mathlib.Core.Path.{ap, ◌∙◌}
use Rattle.std.specs.Prelude.{Ok}
use Rattle.read_attributes.proofs.WalkLaws.{meets}
use Rattle.program_replay_read.proofs.attributes_cases.fields.Goals as goal

pub loop-field-smaller : goal.loop-field-smaller
loop-field-smaller c =
    let h = meets _ _ c.field_at.ensures (c.in_ok-field.was ∙ ap Ok c.in-Some.is) in
    omega arith
