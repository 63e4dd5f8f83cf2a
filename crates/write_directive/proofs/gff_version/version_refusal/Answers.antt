-- `version_refusal` answers the first reason, by what is found of the key and the value. Assumes nothing.
use Rattle.std.specs.Prelude.{◌≡◌, Bool, true, false, not}
use Rattle.std.proofs.Common.{refl}
use Rattle.write_directive.specs.Version.{version_reasons}
use Rattle.write_directive.proofs.gff_version.version_refusal.Goals as goal

not_not : (b : Bool) → not (not b) ≡ b
not_not true = refl
not_not false = refl

pub returns : goal.returns
unfolding version_reasons
returns c =
    let d = c.default.ensures in
    rw (c.is_none.ensures, not_not c.is_none.result) (rw (d.0, d.1.1.0, d.1.1.1.1, c.is_some.ensures, c.is_same-own.ensures) at c.refusal.ensures)
