-- The value of `gff-version` as it is written, GFF3, Directives; RULES 7.2: major, and minor and patch if they are there, with `.` between
-- them. Assumes nothing: these are definitions.
use Rattle.std.specs.Prelude.{ℕ, false, not, ◌&&◌, List, [], ◌∷◌, ◌++◌, Option, None, Some, is_none, is_some}
use Rattle.base_lists.specs.Bytes.{ascii, sp, dot}
use Rattle.base_words.specs.Same.{same}
use Rattle.base_buffer.specs.Answer.{Reason}
use Rattle.write_decimals.specs.Decimal.{decimal}
use Rattle.read_version.specs.declared.GffVersion.{GffVersion}
use Rattle.write_directive.specs.Judge.{reasons}

abbrev pub version_key : List ℕ
version_key = ascii "gff-version"

unfoldable pub version_reasons : List ℕ → GffVersion → List Reason
version_reasons key v =
    reasons key
    (record {
      long = false;
      foreign = not (same key version_key);
      unfit = false;
      minorless = is_none v.minor && is_some v.patch;
      zero = false;
    })

-- a part that may be absent, and its dot
unfoldable pub dotted : Option ℕ → List ℕ
dotted (Some n) = dot ∷ decimal n
dotted None = []

-- the value
unfoldable pub version_text : GffVersion → List ℕ
version_text v = decimal v.major ++ (dotted v.minor ++ dotted v.patch)

-- and the space before it
abbrev pub version_tail : GffVersion → List ℕ
version_tail v = sp ∷ version_text v
