-- `accept_comment`: demand 3, of what the writer answers. Assumes nothing.
use native.Mathlib.Omega.{arith}
use Rattle.promise_demands.specs.Item.{comment, line_of, reasons_of, Typed}
use Rattle.base_lists.proofs.EveryLaws.{all_bytes}
use Rattle.promise_demands.proofs.Demands.{demand3}
use Rattle.promise_demands.proofs.callers.accept_comment.Goals as goal

pub returns : goal.returns
unfolding line_of reasons_of Typed
returns c =
    let text = c.args.text.now in
    let bytes = all_bytes text (λ i. omega (arith, c.type_inv.text i)) in
    demand3.written (comment text) bytes _ _ _ c.write_comment.ensures
