-- `build_refusal` answers the first reason, by what is found of the key and the value. Assumes nothing.
use Rattle.write_directive.specs.GenomeBuild.{build_reasons}
use Rattle.write_directive.proofs.genome_build.build_refusal.Goals as goal

pub returns : goal.returns
unfolding build_reasons
returns c =
    let d = c.default.ensures.1.1.1 in
    rw (d.0, d.1, c.is_unfit-2.ensures, c.is_unfit.ensures, c.is_long-2.ensures, c.is_long.ensures, c.is_same-own.ensures) at c.refusal.ensures
