-- `lay_decimal`: put into a page over the buffer. Assumes nothing.
use native.Mathlib.Omega.{arith}
use borrow.Author.Rules.{rules}
use Rattle.base_sink.proofs.PageLaws.{page_lays_from}
use Rattle.write_decimals.proofs.lay_decimal.Goals as goal

pub returns : goal.returns
returns c = page_lays_from c.args.at (omega (arith, c.min.ensures)) c.put_decimal.ensures (search rules)
