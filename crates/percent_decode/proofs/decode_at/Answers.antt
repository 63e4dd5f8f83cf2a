-- `decode_at`: no percent sign, too few bytes for an escape, an escape, or a percent sign that stays. Assumes nothing.
use Prim.Native.Nat.{◌<◌}
use native.Mathlib.Omega.{arith}
use borrow.Author.Tests.{eq-eqb}
use Rattle.percent_decode.proofs.CursorLaws.{decoded_three, decoded_short, decoded_other, digits_small, stays}
use Rattle.percent_decode.proofs.decode_at.Goals as goal
use Rattle.percent_decode.proofs.decode_at.Goals.{Then-high-low}

-- in an escape both digits are digits
small : (c : Then-high-low) → (c.hex_value-high.result < 16) × (c.hex_value-low.result < 16)
small c = digits_small _ _ c.if-high-low.true

pub returns-then-x-ne37 : goal.returns-then-x-ne37
returns-then-x-ne37 c = let h = c.requires in stays _ _ h (decoded_other _ _ h c.if-x-ne37.true)

pub returns-then-s-i-lt3 : goal.returns-then-s-i-lt3
returns-then-s-i-lt3 c = let h = c.requires in stays _ _ h (decoded_short _ _ h c.if-s-i-lt3.true)

pub overflow_mul-result : goal.overflow_mul-result
overflow_mul-result c = let h = small (goal.at.overflow_mul-result c).Then-high-low in omega arith

pub overflow_add-result : goal.overflow_add-result
overflow_add-result c = let h = small (goal.at.overflow_add-result c).Then-high-low in omega arith

pub returns-then-high-low : goal.returns-then-high-low
returns-then-high-low c =
    let a = c.args in
    record {
      first =
          rw (
            decoded_three a.s.now a.i _ _ (omega arith) c.hex_value-high.ensures c.hex_value-low.ensures,
            eq-eqb _ 37 c.if-x-ne37.false,
            c.if-high-low.true,
          );
      further = omega arith;
      inside = omega arith;
    }

pub returns : goal.returns
returns c =
    let a = c.args in
    stays a.s.now a.i (omega arith)
    (rw (
      decoded_three a.s.now a.i _ _ (omega arith) c.hex_value-high.ensures c.hex_value-low.ensures,
      eq-eqb _ 37 c.if-x-ne37.false,
      c.if-high-low.false,
    ))
