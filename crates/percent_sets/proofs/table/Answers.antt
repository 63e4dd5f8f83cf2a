-- The 256 numbers of the table are the classes: computed. Assumes nothing.
use mathlib.Core.Path.{refl}
use Rattle.percent_sets.specs.Sets.{classes}
use Rattle.percent_sets.proofs.table.Goals as goal

pub returns : goal.returns
unfolding classes
returns c = refl
