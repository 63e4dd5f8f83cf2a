-- `behind_blank`: the state as it was, or a new one. Assumes nothing.
use mathlib.Core.Path.{◌∙◌}
use native.Mathlib.Omega.{arith}
use borrow.Author.Tests.{eq-eqb, ne_eqb}
use Rattle.read_parts.specs.State.{behind_blank}
use Rattle.read_parts.proofs.state.behind_blank.Goals as goal

pub returns-then-count-eq0 : goal.returns-then-count-eq0
unfolding behind_blank
returns-then-count-eq0 c = rw (eq-eqb c.args.count 0 (omega (arith, c.if-count-eq0.true)))

pub returns : goal.returns
unfolding behind_blank
returns c = c.new.ensures ∙ rw (ne_eqb c.args.count 0 (λ same. c.if-count-eq0.false (omega (arith, same))))
