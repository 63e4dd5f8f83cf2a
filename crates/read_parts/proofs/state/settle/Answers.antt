-- `settle`: the carriage return stays, or there is none. Assumes nothing.
use Rattle.std.proofs.Common.{◌≡◌, refl, ap}
use mathlib.Core.Logic.{◌⊎◌, inl, inr}
use Rattle.read_parts.specs.declared.state.Tail.TheVariants.{Fits, Long}
use Rattle.read_parts.specs.State.{is_long, waiting}
use Rattle.read_parts.specs.Inner.Store.{Settles}
use Rattle.read_parts.proofs.StoreLaws.{stores_long, stores_none, stores_as}
use Rattle.read_parts.proofs.state.settle.Goals as goal

pub returns-in-Fits : goal.returns-in-Fits
returns-in-Fits c = go c.in-Fits.is
  where
    go : (c.args.state.tail ≡ Fits) ⊎ (c.args.state.tail ≡ Long) → Settles c.args.state c.args.hold.now c.args.hold.now c.args.state
    go (inl e) = stores_as (ap waiting e) refl (stores_none _ _ e c.requires.within)
    go (inr e) = stores_long _ _ _ _ (ap is_long e)
