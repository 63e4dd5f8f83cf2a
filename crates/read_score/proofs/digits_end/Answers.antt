-- `digits_end`: the first place of what stands from the cursor on. Assumes nothing.
use Rattle.std.proofs.Common.{position, sym, ap, ◌∙◌}
use Rattle.base_scan.proofs.FindLaws.{seek_some, seek_none}
use Rattle.read_score.specs.Score.{no_digit}
use Rattle.read_score.proofs.digits_end.Goals as goal

pub returns-in-Some-clause-first : goal.returns-in-Some-clause-first
returns-in-Some-clause-first c = seek_some _ _ _ _ (sym (ap (position no_digit) c.part.ensures) ∙ sym c.first_other.ensures ∙ c.in-Some.is)

pub returns-in-None-clause-first : goal.returns-in-None-clause-first
returns-in-None-clause-first c = seek_none _ _ _ (sym (ap (position no_digit) c.part.ensures) ∙ sym c.first_other.ensures ∙ c.in-None.is)
