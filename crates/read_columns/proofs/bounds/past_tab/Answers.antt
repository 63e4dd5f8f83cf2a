-- `past_tab`: the end that was found before, or one past the next tab. Assumes nothing.
use Rattle.read_columns.proofs.bounds.past_tab.Goals as goal

pub returns-then-near-le64 : goal.returns-then-near-le64
returns-then-near-le64 c = c.requires c.if-near-le64.true
