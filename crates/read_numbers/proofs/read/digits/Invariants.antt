-- `digits`: what is read is what the digits from i on come to behind those that made v. Assumes nothing.
use mathlib.Core.Path.{◌≡◌}
use Prim.Native.Nat.{◌≤◌}
use lib.ListN.{drop}
use Rattle.read_numbers.specs.Number.{numeral}
use Rattle.read_numbers.proofs.NumberLaws.{onwards}
use Rattle.read_numbers.proofs.read.digits.Given as goal

abbrev pub invariant-loop-b : goal.invariant-loop-b
invariant-loop-b l =
    (l.v ≤ l.most) × (numeral l.least l.most l.s ≡ onwards l.least l.most l.v (drop l.b-index l.s))
