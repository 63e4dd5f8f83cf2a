-- `store`: nothing, or a copy of as much as there is room for. Assumes nothing.
use native.Mathlib.Omega.{arith}
use mathlib.Core.Path.{sym, ◌∙◌}
use Rattle.read_parts.proofs.StoreLaws.{stores_long, lays_fits, lays_over}
use Rattle.read_parts.proofs.state.store.Goals as goal

pub returns-then-is_long : goal.returns-then-is_long
returns-then-is_long c = stores_long _ _ _ _ (sym c.is_long.ensures ∙ c.if-is_long.true)

pub returns-then-room-bytes : goal.returns-then-room-bytes
returns-then-room-bytes c = lays_over c.requires (sym c.is_long.ensures ∙ c.if-is_long.false) c.lay-end.ensures (omega arith)

pub returns : goal.returns
returns c = lays_fits c.requires (sym c.is_long.ensures ∙ c.if-is_long.false) c.lay-end.ensures (omega arith)
