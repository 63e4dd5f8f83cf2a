-- `stands`: the ranges hold what is not escaped, computed at each byte. Assumes nothing.
use borrow.Author.Rules.{rules}
use Prim.Native.Nat.{ℕ}
use mathlib.Core.Path.{refl}
use mathlib.Core.Bool.{Bool, not, ◌||◌}
use lib.Dec.{eqb}
use Rattle.base_lists.specs.Bytes.{between}
use Rattle.base_lists.proofs.BoolLaws.{agree, agree_eq}
use Rattle.base_lists.proofs.TableLaws.{below_holds}
use Rattle.percent_sets.specs.Sets.{escapes}
use Rattle.percent_sets.specs.declared.Set.TheVariants.{Attribute}
use Rattle.percent_encode.proofs.plain.stands.Goals as goal

-- the ranges of the code
abbrev ranges : ℕ → Bool
ranges b = between 32 36 b || between 39 43 b || between 45 58 b || eqb b 60 || between 62 126 b

pub returns : goal.returns
unfolding escapes
returns c = agree_eq _ _ (below_holds 256 (λ b. agree (ranges b) (not (escapes Attribute b))) refl c.args.b (search rules))
