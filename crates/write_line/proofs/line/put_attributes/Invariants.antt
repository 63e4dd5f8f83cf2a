-- `put_attributes`: what takes those that are left, from the cursor on, takes all of them. Assumes nothing.
use Prim.Native.Nat.{ℕ, ◌+◌, ◌≤◌}
use mathlib.Core.Path.{◌≡◌}
use mathlib.Core.List.{map}
use lib.ListN.{length, drop}
use Rattle.std.specs.Prelude.{Option}
use Rattle.base_lists.specs.Bytes.{semicolon, tab}
use Rattle.percent_sets.specs.declared.Set.TheVariants.{Attribute}
use Rattle.percent_coding.specs.Percent.{encoded}
use Rattle.percent_sets.specs.Sets.{escapes}
use Rattle.read_attributes.specs.Written.{written}
use Rattle.sheet_form.specs.Reader.{times}
use Rattle.sheet_form.specs.Sheet.{read_attribute}
use Rattle.sheet_form.specs.Inner.Past.{Passes}
use Rattle.write_line.specs.Inner.Led.{led}
use Rattle.write_line.proofs.line.put_attributes.Given as goal

abbrev pub invariant-loop : goal.invariant-loop
invariant-loop g l =
    (l.from ≤ length l.sheet)
    × ((r : Option ℕ) (q : g.row.S.Denot) (left : ℕ) → l.counter + left ≡ l.count
    → Passes (λ x. g.S.Sink.took (led l.lead semicolon (map (written (encoded (escapes Attribute))) x)) l.sink q) l.sheet r (times read_attribute left (drop l.from l.sheet))
    → Passes (λ x. g.S.Sink.took (led tab semicolon (map (written (encoded (escapes Attribute))) x)) l.initial.sink q) l.sheet r (times read_attribute l.count (drop l.first l.sheet)))
