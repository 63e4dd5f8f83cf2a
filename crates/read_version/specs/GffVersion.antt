-- The value of `gff-version`, GFF3, Directives; RULES 7.2: at most three parts cut at the first two `.`; each part is an optional `+`, then
-- one or more digits, at most 4294967295. Refusals, from left to right: 6, the text is empty; 7, 8, 9, major, minor, patch not valid.
-- Assumes nothing: these are definitions.
use Rattle.std.specs.Prelude.{ℕ, suc, Bool, true, false, cond, List, [], ◌∷◌, eqb, length, take, drop, Option, None, Some, Result, Ok, Err}
use Rattle.base_lists.specs.Bytes.{dot}
use Rattle.base_refusals.specs.declared.Refusal.{Refusal}
use Rattle.base_refusals.specs.declared.Refusal.TheVariants as refusal
use Rattle.base_scan.specs.Find.{index, is}
use Rattle.read_numbers.specs.Number.{version_part, number_then}
use Rattle.read_version.specs.declared.GffVersion.{GffVersion}

-- what stands before the first `.` of a text, whether it has one, and what stands behind it
abbrev pub upto : List ℕ → List ℕ
upto s = take (index (is dot) s) s

abbrev pub has_dot : List ℕ → Bool
has_dot s = cond (eqb (index (is dot) s) (length s)) false true

abbrev pub beyond : List ℕ → List ℕ
beyond s = drop (suc (index (is dot) s)) s

abbrev pub version : ℕ → Option ℕ → Option ℕ → Result GffVersion Refusal
version major minor patch = Ok (record { major = major; minor = minor; patch = patch })

-- minor and patch, where major was read
unfoldable pub patch_of : ℕ → ℕ → List ℕ → Result GffVersion Refusal
patch_of major minor s = number_then (Err refusal.Patch) (version_part s) (λ patch. version major (Some minor) (Some patch))

unfoldable pub minor_of : ℕ → List ℕ → Result GffVersion Refusal
minor_of major s =
    number_then (Err refusal.Minor) (version_part (upto s)) (λ minor. cond (has_dot s) (patch_of major minor (beyond s)) (version major (Some minor) None))

unfoldable pub version_of : List ℕ → Result GffVersion Refusal
version_of [] = Err refusal.Empty
version_of (x ∷ s) =
    number_then (Err refusal.Major) (version_part (upto (x ∷ s)))
    (λ major. cond (has_dot (x ∷ s)) (minor_of major (beyond (x ∷ s))) (version major None None))
