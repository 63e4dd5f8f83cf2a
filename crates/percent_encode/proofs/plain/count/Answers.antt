-- `count`: by windows, or nothing of what is plain by the larger set, or by the table. Assumes nothing.
use Prim.Native.Nat.{ℕ, ◌≤◌}
use native.Mathlib.Omega.{arith}
use mathlib.Core.Path.{◌≡◌, refl, sym, ◌∙◌}
use mathlib.Core.Bool.{Bool}
use mathlib.Core.List.{List}
use lib.ListN.{length, take}
use lib.Seq.{take_all}
use borrow.Author.Tests.{eqb-true}
use Rattle.percent_coding.specs.Percent.{count_escaped}
use Rattle.percent_coding.proofs.PercentLaws.{count_within}
use Rattle.percent_sets.specs.Sets.{escapes}
use Rattle.percent_sets.specs.declared.Set.TheVariants.{Attribute}
use Rattle.percent_encode.proofs.PlainLaws.{column_within}
use Rattle.percent_encode.proofs.plain.count.Goals as goal

-- the first n bytes of a text that is no longer are the text
whole : (set : ℕ → Bool) (n : ℕ) (s : List ℕ) → length s ≤ n → count_escaped set (take n s) ≡ count_escaped set s
whole set n s h = rw (take_all n s h) refl

pub returns-in-Column : goal.returns-in-Column
returns-in-Column c =
    let none = eqb-true _ 0 (sym c.is_plain.ensures ∙ c.if-is_plain.true) in
    let less = count_within (escapes Attribute) (escapes c.args.set) (rw c.in-Column.is column_within) c.args.s.now in
    (omega (arith, none, less, whole), omega arith)
