-- `is_empty` answers `is_empty`. Assumes nothing.
use native.Mathlib.Omega.{arith}
use Rattle.std.proofs.Common.{rules}
use mathlib.Core.Path.{◌≡◌, refl, ◌∙◌}
use mathlib.Core.Bool.{true}
use mathlib.Core.List.{List, [], ◌∷◌}
use Prim.Native.Nat.{ℕ}
use lib.ListN.{length}
use Rattle.base_words.specs.Same.{is_dot}
use Rattle.read_attributes.specs.Attributes.{is_empty}
use Rattle.read_attributes.proofs.field.is_empty.Goals as goal

none : (s : List ℕ) → length s ≡ 0 → true ≡ is_empty s
unfolding is_empty
none [] h = refl
none (x ∷ s) h = absurd (omega arith)

some : (s : List ℕ) → (length s ≡ 0 → ⊥) → is_dot s ≡ is_empty s
unfolding is_empty
some [] h = absurd (h refl)
some (x ∷ s) h = refl

pub returns-then-is_empty : goal.returns-then-is_empty
returns-then-is_empty c = c.if-is_empty.true ∙ none c.args.column.now (search rules)

pub returns-else-is_empty : goal.returns-else-is_empty
returns-else-is_empty c = c.is_dot.ensures ∙ some c.args.column.now (λ e. search rules)
