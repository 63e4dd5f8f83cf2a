-- `stays`: column 1 is not asked; of the others, what is plain by the larger set is so by both. Assumes nothing.
use mathlib.Core.Path.{◌≡◌, sym, ◌∙◌}
use mathlib.Core.Logic.{◌⊎◌, ⊎_elim}
use mathlib.Core.Bool.{true, true≢false}
use Prim.Native.Nat.{ℕ}
use Rattle.percent_sets.specs.Sets.{escapes}
use Rattle.percent_sets.specs.declared.Set.{Set}
use Rattle.percent_sets.specs.declared.Set.TheVariants.{Name, Column, Attribute}
use Rattle.percent_encode.proofs.PlainLaws.{plain_stays, column_within}
use Rattle.percent_encode.proofs.plain.stays.Goals as goal

-- the two sets of the second arm
second : (set : Set) → (set ≡ Column) ⊎ (set ≡ Attribute) → (x : ℕ) → escapes set x ≡ true
    → escapes Attribute x ≡ true
second Name k = ⊎_elim (λ w. cc) (λ w. cc) k
second Column k = column_within
second Attribute k = λ x e. e

pub returns-in-Name : goal.returns-in-Name
returns-in-Name c e = absurd (true≢false (sym e))

pub returns-in-Column : goal.returns-in-Column
returns-in-Column c e =
    let a = c.args in
    plain_stays (escapes Attribute) (escapes a.set) (second a.set c.in-Column.is) a.s.now
    (sym c.is_plain.ensures ∙ e)
