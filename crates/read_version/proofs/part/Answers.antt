-- `part`: a part that is read fits 32 bits. Assumes nothing.
use Rattle.std.proofs.Common.{arith, sym, ◌∙◌}
use Rattle.read_version.proofs.VersionLaws.{part_fits}
use Rattle.read_version.proofs.part.Goals as goal

pub overflow_cast-result : goal.overflow_cast-result
overflow_cast-result c = omega (arith, part_fits _ _ c.version_part.ensures (sym c.ok_or.ensures.value ∙ c.in_ok-number.was))
