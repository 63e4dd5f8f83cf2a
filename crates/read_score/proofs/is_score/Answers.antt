-- `is_score` answers `is_score`: a run of digits behind the minus sign, and the fraction behind the run. Assumes nothing.
use mathlib.Core.Path.{sym, ap, ◌∙◌}
use native.Mathlib.Omega.{arith}
use Rattle.read_score.specs.Score.{is_fraction, is_score}
use Rattle.read_score.proofs.ScoreLaws.{after_run, run_none, run_then}
use Rattle.read_score.proofs.is_score.Goals as goal

pub returns-then-to-eq0 : goal.returns-then-to-eq0
unfolding is_score
returns-then-to-eq0 c =
    let digits = c.unsigned-digits.ensures in
    sym (ap (after_run is_fraction) (sym digits) ∙ run_none is_fraction 0 _ _ (omega arith) c.digits_end-to.ensures.first (omega arith))

pub returns : goal.returns
unfolding is_score
returns c =
    let digits = c.unsigned-digits.ensures in
    c.is_fraction.ensures
    ∙ sym (ap (after_run is_fraction) (sym digits) ∙ run_then is_fraction 0 _ _ (omega arith) c.digits_end-to.ensures.first (omega arith))
