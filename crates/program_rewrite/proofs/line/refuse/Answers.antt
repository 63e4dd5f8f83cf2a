-- `refuse`: one text behind the other. Assumes nothing.
use native.Mathlib.Omega.{arith}
use Rattle.program_rewrite.proofs.RewriteLaws.{refused}
use Rattle.program_rewrite.proofs.line.refuse.Goals as goal

pub returns : goal.returns
returns c =
    rw (← c.number.ensures) (refused c.number.result (omega (arith, c.number.type_inv)) c.requires c.lay-at.ensures c.lay_decimal.ensures)
