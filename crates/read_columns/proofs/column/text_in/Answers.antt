-- `text_in` answers what stands at the column's place. Assumes nothing.
use Rattle.read_columns.proofs.ColumnsLaws.{text_short}
use Rattle.read_columns.proofs.column.text_in.Goals as goal

pub returns : goal.returns
returns c = record { text = rw (c.text.ensures, c.place_in.ensures); short = rw c.text.ensures (text_short c.place_in.result c.args.line.now) }
