-- `hex_digit` answers `hex_digit`. Assumes nothing.
use borrow.Author.Tests.{le-leb, lt-leb}
use Rattle.percent_coding.specs.Percent.{hex_digit}
use Rattle.percent_encode.proofs.hex_digit.Goals as goal

pub returns-then-n-le9 : goal.returns-then-n-le9
unfolding hex_digit
returns-then-n-le9 c = simp (le-leb _ _ c.if-n-le9.true)

pub returns-else-n-le9 : goal.returns-else-n-le9
unfolding hex_digit
returns-else-n-le9 c = simp (lt-leb _ _ c.if-n-le9.false)
