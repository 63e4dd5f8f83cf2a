-- A directive as it is written: GFF3, Directives; RULES 8.3, 11.4: `##`, key, then a space and the value if there is one. Assumes nothing:
-- these are definitions.
use Rattle.std.specs.Prelude.{ℕ, false, List, [], ◌∷◌, ◌++◌}
use Rattle.base_lists.specs.Bytes.{sp, hash}
use Rattle.base_buffer.specs.Answer.{Reason}
use Rattle.write_texts.specs.Text.{long, breaks}
use Rattle.write_directive.specs.declared.directive.Value.{Value}
use Rattle.write_directive.specs.declared.directive.Value.TheVariants.{None, Text, Version, Region, Build}
use Rattle.write_directive.specs.Judge.{no_faults, reasons}
use Rattle.write_directive.specs.Version.{version_reasons, version_tail}
use Rattle.write_directive.specs.Region.{region_reasons, region_tail}
use Rattle.write_directive.specs.GenomeBuild.{build_reasons, build_tail}

-- why a directive of a key, a value and the two texts beside it is refused, in order: 24, 21, 19, 20, 9, 2
unfoldable pub directive_reasons : List ℕ → Value → List ℕ → List ℕ → List Reason
directive_reasons key None first second = reasons key no_faults
directive_reasons key Text first second =
    reasons key (record { long = long first; foreign = false; unfit = breaks first; minorless = false; zero = false })
directive_reasons key (Version v) first second = version_reasons key v
directive_reasons key (Region start end) first second = region_reasons key first start end
directive_reasons key Build first second = build_reasons key first second

-- the value and the space before it
unfoldable pub tail : Value → List ℕ → List ℕ → List ℕ
tail None first second = []
tail Text first second = sp ∷ first
tail (Version v) first second = version_tail v
tail (Region start end) first second = region_tail first start end
tail Build first second = build_tail first second

abbrev pub directive_line : List ℕ → Value → List ℕ → List ℕ → List ℕ
directive_line key value first second = hash ∷ hash ∷ (key ++ tail value first second)
