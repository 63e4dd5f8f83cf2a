-- `unsigned`: one byte is left out where it is a `-`. Assumes nothing.
use Rattle.std.proofs.Common.{◌∙◌}
use Rattle.base_lists.specs.Bytes.{minus}
use Rattle.read_numbers.proofs.PrefixLaws.{begins, begins_not}
use Rattle.read_score.proofs.unsigned.Goals as goal

pub returns-in-Some : goal.returns-in-Some
returns-in-Some c = let h = c.in-Some.ensures.cases in h.1 ∙ begins minus _ h.0

pub returns-in-None : goal.returns-in-None
returns-in-None c = begins_not minus _ c.in-None.ensures.cases
