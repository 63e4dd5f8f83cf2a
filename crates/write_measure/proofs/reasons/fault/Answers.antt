-- `fault`: the faults are those of the sheet's own type and score. Assumes nothing.
use mathlib.Core.Path.{◌∙◌}
use Rattle.write_measure.proofs.reasons.fault.Goals as goal

pub returns-in_default-clause-met : goal.returns-in_default-clause-met
returns-in_default-clause-met c s e = absurd (rw c.in_default.is at c.type_and_score.ensures.read s e)

pub returns-clause-met : goal.returns-clause-met
returns-clause-met c s e =
    let t = rw c.in-Some.is at c.type_and_score.ensures.read s e in
    c.first_fault.ensures
    ∙ rw (c.is_bad.ensures, c.text-2.ensures, t.1, c.is_same-cds.ensures, c.text.ensures, t.0)
