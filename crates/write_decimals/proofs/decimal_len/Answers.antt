-- `decimal_len`: one digit more than the power of ten below the number has zeros. Assumes nothing.
use Rattle.std.proofs.Common.{ap, length, arith}
use Rattle.write_decimals.proofs.DecimalLaws.{length_power, decimal_one}
use Rattle.write_decimals.proofs.decimal_len.Goals as goal

pub returns-in-Some : goal.returns-in-Some
returns-in-Some c =
    let e = c.in-Some.ensures in (omega (arith, length_power c.in-Some.k c.args.n e.power_le e.next_power_gt), omega (arith, e.bound))

pub returns-in-None : goal.returns-in-None
returns-in-None c =
    let zero = c.in-None.ensures.none in (omega (arith, zero, ap length (decimal_one c.args.n (omega (arith, zero)))), omega arith)
