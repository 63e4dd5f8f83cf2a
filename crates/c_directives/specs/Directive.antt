-- The typed values of directives as C has them, a case at a time (RULES 16). Assumes nothing: these are definitions.
use Rattle.std.specs.Prelude.{ℕ, Option, None, Some, Result, Ok, Err}
use Rattle.base_refusals.specs.Refusal.{number}
use Rattle.base_refusals.specs.declared.Refusal.{Refusal}
use Rattle.read_version.specs.declared.GffVersion.{GffVersion}
use Rattle.read_directives.specs.declared.sequence_region.SequenceRegion.{SequenceRegion}
use Rattle.read_directives.specs.declared.genome_build.GenomeBuild.{GenomeBuild}
use Rattle.c_directives.specs.declared.Gff3VersionValue.{Gff3VersionValue}
use Rattle.c_directives.specs.declared.Gff3RegionValue.{Gff3RegionValue}
use Rattle.c_directives.specs.declared.Gff3BuildValue.{Gff3BuildValue}

-- how many parts there are, and each, beside the refusal; a part that is absent is 0
abbrev pub c_parts : ℕ → ℕ → Option ℕ → Option ℕ → Gff3VersionValue
c_parts refused major None patch = record { refused = refused; parts = 1; major = major; minor = 0; patch = 0 }
c_parts refused major (Some minor) None = record { refused = refused; parts = 2; major = major; minor = minor; patch = 0 }
c_parts refused major (Some minor) (Some patch) = record { refused = refused; parts = 3; major = major; minor = minor; patch = patch }

abbrev pub c_version : Result GffVersion Refusal → Gff3VersionValue
c_version (Ok v) = c_parts 0 v.major v.minor v.patch
c_version (Err r) = record { refused = number r; parts = 0; major = 0; minor = 0; patch = 0 }

abbrev pub c_region : Result SequenceRegion Refusal → Gff3RegionValue
c_region (Ok r) = record { refused = 0; name_start = r.name.start; name_end = r.name.end; start = r.start; end = r.end }
c_region (Err r) = record { refused = number r; name_start = 0; name_end = 0; start = 0; end = 0 }

abbrev pub c_build : Result GenomeBuild Refusal → Gff3BuildValue
c_build (Ok b) =
    record { refused = 0; source_start = b.source.start; source_end = b.source.end; name_start = b.name.start; name_end = b.name.end }
c_build (Err r) = record { refused = number r; source_start = 0; source_end = 0; name_start = 0; name_end = 0 }
