-- `lower`: the number below, except for 0, of which nothing is left either way. Assumes nothing.
use Rattle.std.proofs.Common.{◌≡◌, ℕ, zero, suc, ◌+◌, ◌-◌, ◌%◌, ◌<◌, refl, ap, arith}
use lib.Bits.{bit_and}
use Rattle.read_columns.proofs.bounds.lower.Goals as goal

below : (m r : ℕ) → r < 18446744073709551616 → (r + 1) % 18446744073709551616 ≡ m → bit_and m r ≡ bit_and m (m - 1)
below zero r h e = refl
below (suc m) r h e = let d : r ≡ suc m - 1 = omega arith in ap (bit_and (suc m)) d

pub returns : goal.returns
returns c = below c.args.m c.wrapping_sub_u64.result (omega arith) c.wrapping_sub_u64.ensures.value
