-- `past`: one past the zeros below the lowest digit, of which there are at most 64. Assumes nothing.
use Rattle.std.proofs.Common.{arith}
use lib.Count.{trailing_le}
use Rattle.read_columns.proofs.bounds.past.Goals as goal

pub overflow_cast-result : goal.overflow_cast-result
overflow_cast-result c = omega (arith, trailing_le 64 c.args.m)

pub overflow_add-result : goal.overflow_add-result
overflow_add-result c = omega (arith, trailing_le 64 c.args.m)
