-- Lookup (RULES 5.5): the first attribute whose decoded tag matches, unless a refusal comes earlier; and the added lookup (RULES 5.6),
-- which answers the raw value, or the caller's fallback where the tag is absent or 5 comes first. Assumes nothing: these are definitions.
use Rattle.std.specs.Prelude.{ℕ, ◌+◌, cond, List, length, Option, Some, None, Result, Ok, Err}
use Rattle.base_refusals.specs.declared.Refusal.{Refusal}
use Rattle.base_refusals.specs.declared.Refusal.TheVariants as refusal
use Rattle.base_scan.specs.declared.place.Place.{Place}
use Rattle.base_words.specs.Same.{same}
use Rattle.percent_coding.specs.Percent.{decoded}
use Rattle.read_attributes.specs.Attributes.{Walk, walk}
use Rattle.read_attributes.specs.Attributes as met

-- ── by texts ──

-- the value, as it stands in the column, of the first attribute that a walk meets and whose decoded tag is `tag`; none where no attribute
-- has the tag; or text without `=` comes first, which is refusal 5
unfoldable pub lookup_in : List ℕ → Walk → Result (Option (List ℕ)) Refusal
lookup_in tag met.done = Ok None
lookup_in tag met.refused = Err refusal.Attribute
lookup_in tag (met.then t v w) = cond (same (decoded t) tag) (Ok (Some v)) (lookup_in tag w)

abbrev pub lookup : List ℕ → List ℕ → Result (Option (List ℕ)) Refusal
lookup column tag = lookup_in tag (walk column)

-- the value, or the fallback
abbrev pub or_else : List ℕ → Result (Option (List ℕ)) Refusal → List ℕ
or_else fallback (Ok (Some v)) = v
or_else fallback (Ok None) = fallback
or_else fallback (Err r) = fallback

unfoldable pub value_or : List ℕ → List ℕ → List ℕ → List ℕ
value_or column tag fallback = or_else fallback (lookup column tag)

-- ── by places ──

-- where that value stands, for a walk from `at` on: a tag's text is followed by `=`, and a value's by `;`
unfoldable pub find_in : List ℕ → ℕ → Walk → Result (Option Place) Refusal
find_in tag at met.done = Ok None
find_in tag at met.refused = Err refusal.Attribute
find_in tag at (met.then t v w) =
    cond (same (decoded t) tag) (Ok (Some (record { start = at + length t + 1; end = at + length t + 1 + length v })))
    (find_in tag (at + length t + 1 + length v + 1) w)

unfoldable pub find_tag : List ℕ → List ℕ → Result (Option Place) Refusal
find_tag column tag = find_in tag 0 (walk column)
