-- `put_decimal`: by its call of itself, a tenth of the number is put, and then the last digit. Assumes nothing.
use Rattle.write_decimals.proofs.DecimalLaws.{decimal_one, decimal_more}
use Rattle.write_decimals.proofs.+put_decimal.Goals as goal

pub returns-then-n-lt10 : goal.returns-then-n-lt10
returns-then-n-lt10 g t c = rw (decimal_one _ c.if-n-lt10.true) c.byte.ensures

pub returns : goal.returns
returns g t c = rw (decimal_more _ c.if-n-lt10.false) (g.S.Sink.laws.joins _ _ _ _ _ c.put_decimal.ensures c.byte-2.ensures)
