-- `is_fraction` answers `is_fraction` of what stands from the cursor on. Assumes nothing.
use Rattle.std.proofs.Common.{sym, ◌∙◌, arith}
use Rattle.read_score.specs.Score.{is_exponent}
use Rattle.read_score.proofs.ScoreLaws.{run_none, run_then, fraction_none, fraction_other, fraction_dot}
use Rattle.read_score.proofs.is_fraction.Goals as goal

pub returns-in_default : goal.returns-in_default
returns-in_default c = sym (fraction_none _ _ c.in_default.ensures.lookup.3)

pub returns-then-x-ne46 : goal.returns-then-x-ne46
returns-then-x-ne46 c =
    let at = c.in-Some.ensures.lookup.3 in
    c.is_exponent.ensures ∙ sym (fraction_other _ _ at.0 (λ q. c.if-x-ne46.true (at.1 0 ∙ q)))

pub returns-then-to-from : goal.returns-then-to-from
returns-then-to-from c =
    let at = c.in-Some.ensures.lookup.3 in
    let dot = fraction_dot _ _ at.0 (sym (at.1 0) ∙ c.if-x-ne46.false) in
    sym (dot ∙ run_none is_exponent _ _ _ (omega (arith, at.0)) c.digits_end-to.ensures.first c.if-to-from.true)

pub returns : goal.returns
returns c =
    let at = c.in-Some.ensures.lookup.3 in
    let dot = fraction_dot _ _ at.0 (sym (at.1 0) ∙ c.if-x-ne46.false) in
    c.is_exponent-2.ensures ∙ sym (dot ∙ run_then is_exponent _ _ _ (omega (arith, at.0)) c.digits_end-to.ensures.first c.if-to-from.false)
