-- The value of a directive as C hands it in (RULES 16.1, 16.3). Assumes nothing: these are definitions.
use Rattle.std.specs.Prelude.{ℕ, cond, eqb, Option, None, Some}
use Rattle.read_version.specs.declared.GffVersion.{GffVersion}
use Rattle.write_directive.specs.declared.directive.Value as value
use Rattle.write_directive.specs.declared.directive.Value.TheVariants as kind
use Rattle.c_write.specs.declared.Gff3DirectiveValue.{Gff3DirectiveValue}

-- a part of a version: there, if its number says so
abbrev pub part_of_c : ℕ → ℕ → Option ℕ
part_of_c has n = cond (eqb has 0) None (Some n)

abbrev pub version_of_c : Gff3DirectiveValue → GffVersion
version_of_c v = record { major = v.major; minor = part_of_c v.has_minor v.minor; patch = part_of_c v.has_patch v.patch }

-- by the number of its kind: 1 a text, 2 a version, 3 a region, 4 a build, and 0 or another for none
abbrev pub value_of_c : Gff3DirectiveValue → value.Value
value_of_c v =
    cond (eqb v.kind 1) kind.Text
    (cond (eqb v.kind 2) (kind.Version (version_of_c v))
    (cond (eqb v.kind 3) (kind.Region v.start v.end) (cond (eqb v.kind 4) kind.Build kind.None)))
