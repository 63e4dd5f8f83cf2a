-- `accept_directive`: demand 3, of what the writer answers. Assumes nothing.
use native.Mathlib.Omega.{arith}
use Rattle.promise_demands.specs.Item.{Item, directive, line_of, reasons_of, Typed}
use Rattle.base_lists.proofs.EveryLaws.{all_bytes}
use Rattle.write_directive.proofs.TypedLaws.{sized}
use Rattle.promise_demands.proofs.Demands.{demand3}
use Rattle.promise_demands.proofs.callers.accept_directive.Goals as goal

pub returns : goal.returns
unfolding line_of reasons_of Typed
returns c =
    let a = c.args in
    let i : Item = directive a.key.now a.value a.first.now a.second.now in
    let typed : Typed i = (
      all_bytes a.key.now (λ k. omega (arith, c.type_inv.key k)),
      sized a.value _ c.well_formed.1.0,
      all_bytes a.first.now (λ k. omega (arith, c.type_inv.first k)),
      all_bytes a.second.now (λ k. omega (arith, c.type_inv.second k)),
    ) in
    demand3.written i typed _ _ _ c.write_directive.ensures
