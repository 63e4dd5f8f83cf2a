-- `past_sign`: one byte is left out where it is a sign. Assumes nothing.
use Rattle.std.proofs.Common.{sym, arith}
use Rattle.base_lists.proofs.SansLaws.{sans_past, sans_stays}
use Rattle.read_score.specs.Score.{is_sign}
use Rattle.read_score.proofs.past_sign.Goals as goal

pub returns-then-x : goal.returns-then-x
returns-then-x c =
    let at = c.in-Some.ensures.lookup.3 in
    let byte = sym (at.1 0) in sym (sans_past is_sign _ _ at.0 (rw byte c.if-x.true))

pub returns-else-x : goal.returns-else-x
returns-else-x c =
    let at = c.in-Some.ensures.lookup.3 in
    let byte = sym (at.1 0) in sym (sans_stays is_sign c.args.at c.args.s.now (λ h. rw byte c.if-x.false))

pub returns-in_default : goal.returns-in_default
returns-in_default c =
    let end = c.in_default.ensures.lookup.3 in sym (sans_stays is_sign c.args.at c.args.s.now (λ h. absurd (omega arith)))
