-- `accept_record`: demand 3, of what the writer answers. Assumes nothing.
use native.Mathlib.Omega.{arith}
use Rattle.promise_demands.specs.Item.{Item, feature, line_of, reasons_of, Typed}
use Rattle.base_lists.proofs.EveryLaws.{all_bytes}
use Rattle.promise_demands.proofs.Demands.{demand3}
use Rattle.promise_demands.proofs.callers.accept_record.Goals as goal

pub returns : goal.returns
unfolding line_of reasons_of Typed
returns c =
    let a = c.args in
    let numbers = c.well_formed.1 in
    let i : Item = feature a.sheet.now a.start a.end a.strand a.phase in
    let typed : Typed i = (
      all_bytes a.sheet.now (λ k. omega (arith, c.type_inv.sheet k)),
      omega (arith, numbers.0.1),
      omega (arith, numbers.1.0.1),
    ) in
    demand3.written i typed _ _ _ c.write_record.ensures
