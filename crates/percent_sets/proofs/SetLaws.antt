-- Each set has a coder, and the bytes that never come out of it are those that would end a column, a field or a record. Assumes nothing.
use Prim.Native.Nat.{ℕ, ◌<◌}
use mathlib.Core.Path.{◌≡◌, refl}
use mathlib.Core.Bool.{Bool, true, not, ◌||◌}
use Rattle.base_lists.specs.Bytes.{hash, percent, ampersand, comma, semicolon, equals}
use Rattle.base_lists.proofs.TableLaws.{below_holds}
use Rattle.percent_coding.specs.Percent.{is_hex, encoded}
use Rattle.percent_coder.specs.Coder.{Coder}
use Rattle.percent_coder.proofs.CoderLaws.{coder_encoded}
use Rattle.percent_sets.specs.declared.Set.{Set}
use Rattle.percent_sets.specs.declared.Set.TheVariants.{Name, Column, Attribute}
use Rattle.percent_sets.specs.Sets.{escapes}
use Rattle.percent_sets.specs.Bars.{bars}

-- every set escapes the percent sign
escapes_percent : (set : Set) → escapes set percent ≡ true
unfolding escapes
escapes_percent Name = refl
escapes_percent Column = refl
escapes_percent Attribute = refl

-- whether the set of column 1 escapes a byte, if a set does
abbrev name_too : Set → ℕ → Bool
name_too set b = not (escapes set b) || escapes Name b

name_too_holds : (set : Set) (b : ℕ) → b < 256 → name_too set b ≡ true
unfolding escapes
name_too_holds Name = below_holds 256 (name_too Name) refl
name_too_holds Column = below_holds 256 (name_too Column) refl
name_too_holds Attribute = below_holds 256 (name_too Attribute) refl

-- the set of column 1 escapes every byte that any of the sets does
pub name_escapes_most : (set : Set) (b : ℕ) → b < 256 → escapes set b ≡ true → escapes Name b ≡ true
name_escapes_most set b h e = rw e at (name_too_holds set b h)

pub coder_of : (set : Set) → Coder (bars set) (encoded (escapes set))
coder_of set = coder_encoded (escapes set) (escapes_percent set)

-- no control character comes out of any set, so no tab, LF and CR
pub bars_control : (set : Set) (c : ℕ) → c < 32 → bars set c ≡ true
unfolding escapes is_hex
bars_control Name c h = below_holds 32 (bars Name) refl c h
bars_control Column c h = below_holds 32 (bars Column) refl c h
bars_control Attribute c h = below_holds 32 (bars Attribute) refl c h

-- no sign of column 9 in a tag or a value
pub bars_signs : (bars Attribute semicolon ≡ true) × (bars Attribute equals ≡ true) × (bars Attribute comma ≡ true) × (bars Attribute ampersand ≡ true)
unfolding escapes is_hex
bars_signs = (refl, refl, refl, refl)

-- no `#` in column 1, so a record never turns into a comment, and no `>`
pub bars_hash : (bars Name hash ≡ true) × (bars Name 62 ≡ true)
unfolding escapes is_hex
bars_hash = (refl, refl)
