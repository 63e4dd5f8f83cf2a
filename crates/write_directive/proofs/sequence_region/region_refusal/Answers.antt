-- `region_refusal` answers the first reason, by what is found of the key and the value. Assumes nothing.
use Rattle.write_directive.specs.Region.{region_reasons}
use Rattle.write_directive.proofs.sequence_region.region_refusal.Goals as goal

pub returns : goal.returns
unfolding region_reasons
returns c = rw (c.default.ensures.1.1.1.0, c.is_unfit.ensures, c.is_long.ensures, c.is_same-own.ensures) at c.refusal.ensures
