-- `is_exponent` answers `is_exponent` of what stands from the cursor on. Assumes nothing.
use Rattle.std.proofs.Common.{sym}
use Rattle.read_score.proofs.ScoreLaws.{exponent_none, exponent_other, exponent_then}
use Rattle.read_score.proofs.is_exponent.Goals as goal

pub returns-in_default : goal.returns-in_default
returns-in_default c = sym (exponent_none _ _ c.in_default.ensures.lookup.3)

pub returns-then-x : goal.returns-then-x
returns-then-x c =
    let at = c.in-Some.ensures.lookup.3 in
    let byte = sym (at.1 0) in sym (exponent_other _ _ at.0 (rw byte c.if-x.true))

pub returns : goal.returns
returns c =
    let at = c.in-Some.ensures.lookup.3 in
    let byte = sym (at.1 0) in
    rw c.digits_end.ensures.first (sym (exponent_then _ _ at.0 _ (rw byte c.if-x.false) (sym c.past_sign-from.ensures)))
