-- `put_values`: what takes those that are left, from the cursor on, takes all of them. Assumes nothing.
use Prim.Native.Nat.{ℕ, ◌+◌, ◌≤◌}
use mathlib.Core.Path.{◌≡◌}
use mathlib.Core.List.{map}
use lib.ListN.{length, drop}
use Rattle.std.specs.Prelude.{Option}
use Rattle.base_lists.specs.Bytes.{comma, equals}
use Rattle.percent_sets.specs.declared.Set.TheVariants.{Attribute}
use Rattle.percent_coding.specs.Percent.{encoded}
use Rattle.percent_sets.specs.Sets.{escapes}
use Rattle.sheet_form.specs.Reader.{times}
use Rattle.sheet_form.specs.Sheet.{section}
use Rattle.sheet_form.specs.Inner.Past.{Passes}
use Rattle.write_line.specs.Inner.Led.{led}
use Rattle.write_line.proofs.line.put_values.Given as goal

abbrev pub invariant-loop : goal.invariant-loop
invariant-loop g l =
    (l.from ≤ length l.sheet)
    × ((r : Option ℕ) (q : g.row.S.Denot) (left : ℕ) → l.counter + left ≡ l.count
    → Passes (λ x. g.S.Sink.took (led l.lead comma (map (encoded (escapes Attribute)) x)) l.sink q) l.sheet r (times section left (drop l.from l.sheet))
    → Passes (λ x. g.S.Sink.took (led equals comma (map (encoded (escapes Attribute)) x)) l.initial.sink q) l.sheet r (times section l.count (drop l.first l.sheet)))
