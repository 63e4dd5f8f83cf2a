-- `own`: the index is these bounds, which is to say that none of the eight ends differs. Assumes nothing.
use Rattle.std.specs.Prelude.{◌≡◌, Result, Ok, Err}
use Rattle.std.specs.Result.{result_eq}
use mathlib.Core.Path.{◌∙◌, refl}
use mathlib.Core.Bool.{Bool, and-true}
use Rattle.base_refusals.specs.declared.Refusal.{Refusal}
use Rattle.base_words.specs.Same.{same}
use Rattle.read_columns.specs.declared.bounds.Bounds.{Bounds}
use Rattle.read_columns.specs.contracts.bounds.BoundsPartialEq.TheImpl.{eq-value}
use Rattle.read_columns.specs.Columns.{is_own, matches}
use Rattle.read_columns.proofs.bounds.own.Goals as goal

-- a test of equality tells whether none of the eight ends differs, whatever it says of refusals
matched : (other : Refusal → Refusal → Bool) (r : Result Bounds Refusal) (b : Bounds) → result_eq eq-value.it other r (Ok b) ≡ matches r b
unfolding same
matched other (Ok a) b = simp and-true
matched other (Err e) b = refl

pub returns : goal.returns
unfolding is_own
returns c = c.eq.ensures ∙ rw (← c.index.ensures) (matched _ c.index.result c.args.bounds)
