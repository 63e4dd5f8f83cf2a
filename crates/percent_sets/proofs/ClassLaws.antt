-- The table's rule: an entry says which sets escape its byte. One test over the three sets, computed at each byte. Assumes nothing.
use Prim.Native.Nat.{ℕ, ◌<◌}
use mathlib.Core.Path.{◌≡◌, refl}
use mathlib.Core.Bool.{Bool, true, ◌&&◌}
use mathlib.Core.List.{List}
use Rattle.base_lists.proofs.BoolLaws.{and_left, and_right, agree, agree_eq}
use Rattle.base_lists.proofs.TableLaws.{below_holds}
use Rattle.percent_sets.specs.declared.Set.{Set}
use Rattle.percent_sets.specs.declared.Set.TheVariants.{Name, Column, Attribute}
use Rattle.percent_sets.specs.Sets.{escapes, classes, escapes_by}

abbrev right : Set → ℕ → Bool
right set b = agree (escapes_by classes set b) (escapes set b)

abbrev all : ℕ → Bool
all b = right Name b && right Column b && right Attribute b

holds : (b : ℕ) → b < 256 → all b ≡ true
unfolding escapes classes
holds = below_holds 256 all refl

rule : (set : Set) (b : ℕ) → all b ≡ true → right set b ≡ true
rule Name b e = and_left _ _ (and_left _ _ e)
rule Column b e = and_right (right Name b) _ (and_left _ _ e)
rule Attribute b e = and_right (right Name b && right Column b) _ e

-- what the table says of a byte is what the set does
pub by_classes : {table : List ℕ} → table ≡ classes → (set : Set) (b : ℕ) → b < 256 → escapes_by table set b ≡ escapes set b
by_classes e set b h = rw e (agree_eq _ _ (rule set b (holds b h)))
