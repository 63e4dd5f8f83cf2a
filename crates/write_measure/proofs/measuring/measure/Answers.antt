-- `measure`: the first reason that holds, or the length. Assumes nothing.
use native.Mathlib.Omega.{arith}
use mathlib.Core.Path.{◌≡◌, ap}
use Prim.Native.Nat.{◌-◌, ◌^◌, min}
use lib.ListN.{length}
use borrow.Author.Tests.{lt-ltb}
use Rattle.std.specs.Prelude.{Ok}
use Rattle.std.proofs.lemmas.Result.{err_from_is_err_and}
use Rattle.base_lists.proofs.EveryLaws.{all_bytes}
use Rattle.base_buffer.specs.Answer.{unless}
use Rattle.base_buffer.proofs.AnswerLaws.{unless_is, unless_not}
use Rattle.write_measure.specs.Record.{record_reasons, record_line}
use Rattle.write_measure.proofs.FewLaws.{line_few}
use Rattle.write_measure.proofs.MeasuredLaws.{taken}
use Rattle.write_measure.proofs.measuring.measure.Goals as goal

pub returns-then-sheet-gt-MOST_TEXT : goal.returns-then-sheet-gt-MOST_TEXT
unfolding record_reasons unless
returns-then-sheet-gt-MOST_TEXT c = rw (lt-ltb _ _ c.if-sheet-gt-MOST_TEXT.true)

pub returns-in_err-refusal_behind : goal.returns-in_err-refusal_behind
unfolding unless
returns-in_err-refusal_behind c =
    let p = err_from_is_err_and c.from_residual.result c.from_residual.ensures.1 in
    rw (p.1, p.2, unless_not _ c.refusal_behind.ensures c.in_err-refusal_behind.was)

pub returns : goal.returns
unfolding unless
returns c =
    let a = c.args in
    let none = (unless_is c.refusal_behind.ensures c.in_ok-refusal_behind.was).0 in
    let form = (taken _ _ _ _ _ none).1 in
    let bytes = all_bytes a.sheet.now (λ i. omega (arith, c.type_inv.sheet i)) in
    let few = line_few a.sheet.now a.start a.end a.strand a.phase form.0 bytes (omega arith) (omega arith) form.1 in
    let counted : c.unwrap_or.result ≡ min (length (record_line a.sheet.now a.start a.end a.strand a.phase)) (2 ^ 64 - 1)
    = rw (c.count_line-counted.ensures, form.1) at c.unwrap_or.ensures in
    let all : c.unwrap_or.result ≡ length (record_line a.sheet.now a.start a.end a.strand a.phase)
    = omega (arith, counted, few, c.if-sheet-gt-MOST_TEXT.false) in
    rw none (ap Ok (omega (arith, all)))
