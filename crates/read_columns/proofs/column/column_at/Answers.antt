-- `column_at`: the line's own bounds first, then the column's place. Assumes nothing.
use Rattle.std.proofs.Common.{sym, ◌∙◌}
use Rattle.read_columns.specs.Columns.{column_at}
use Rattle.read_columns.proofs.ColumnsLaws.{own_ends}
use Rattle.read_columns.proofs.column.column_at.Goals as goal

pub returns-then-own : goal.returns-then-own
unfolding column_at
returns-then-own c =
    let own = sym c.own.ensures ∙ c.if-own.true in
    rw (c.place_in.ensures, own, own_ends _ _ own)

pub returns-else-own : goal.returns-else-own
unfolding column_at
returns-else-own c = rw (← c.own.ensures, c.if-own.false)
