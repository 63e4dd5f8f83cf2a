-- What it means that a value reads back, RULES 9.4: its text, and a typed value from its own parser. Assumes nothing: these are
-- definitions.
use Rattle.std.specs.Prelude.{ℕ, ◌+◌, ◌≤◌, ◌≡◌, List, length, Option, Ok}
use Rattle.std.specs.declared.option.Option.TheVariants as option
use Rattle.base_scan.specs.Part.{text_at}
use Rattle.read_numbers.specs.Number.{most32, most64}
use Rattle.read_version.specs.GffVersion.{version, version_of}
use Rattle.read_directives.specs.SequenceRegion.{region_of}
use Rattle.read_directives.specs.GenomeBuild.{build_of}
use Rattle.write_directive.specs.declared.directive.Value.{Value}
use Rattle.write_directive.specs.declared.directive.Value.TheVariants.{None, Text, Version, Region, Build}
use Rattle.write_directive.specs.Version.{version_text}
use Rattle.write_directive.specs.Region.{region_text}
use Rattle.write_directive.specs.GenomeBuild.{build_text}

-- the value's text, if there is a value
unfoldable pub value_text : Value → List ℕ → List ℕ → Option (List ℕ)
value_text None first second = option.None
value_text Text first second = option.Some first
value_text (Version v) first second = option.Some (version_text v)
value_text (Region start end) first second = option.Some (region_text first start end)
value_text Build first second = option.Some (build_text first second)

-- the numbers fit their types: 32 bits in a version, 64 in a region
abbrev pub Within : Option ℕ → Type 0
Within (option.Some n) = n ≤ most32
Within option.None = Unit {0}

unfoldable pub Sized : Value → Type 0
Sized None = Unit {0}
Sized Text = Unit {0}
Sized (Version v) = (v.major ≤ most32) × Within v.minor × Within v.patch
Sized (Region start end) = (start ≤ most64) × (end ≤ most64)
Sized Build = Unit {0}

-- what the value's own reader makes of its text: the same numbers, and places where the same texts stand
unfoldable pub Back : Value → List ℕ → List ℕ → Type 0
Back None first second = Unit {0}
Back Text first second = Unit {0}
Back (Version v) first second = version_of (version_text v) ≡ version v.major v.minor v.patch
Back (Region start end) first second =
    (region_of (region_text first start end) ≡ Ok (record { name = record { start = 0; end = length first }; start = start; end = end }))
    × (text_at (record { start = 0; end = length first }) (region_text first start end) ≡ first)
Back Build first second =
    (build_of (build_text first second) ≡ Ok (record { source = record { start = 0; end = length first }; name = record { start = length first + 1; end = length first + 1 + length second } }))
    × (text_at (record { start = 0; end = length first }) (build_text first second) ≡ first)
    × (text_at (record { start = length first + 1; end = length first + 1 + length second }) (build_text first second) ≡ second)
