-- `escaped`: the entry of the table decides. Assumes nothing.
use borrow.Author.Rules.{rules}
use mathlib.Core.Path.{◌∙◌}
use Rattle.percent_sets.proofs.ClassLaws.{by_classes}
use Rattle.percent_sets.proofs.escaped.Goals as goal

pub returns : goal.returns
returns c = c.escaped_by.ensures ∙ by_classes c.table.ensures c.args.set c.args.b (search rules)
