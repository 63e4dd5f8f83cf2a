-- `write_judged`: refused, or the line, which is at most three times as long as the sheet. Assumes nothing.
use native.Mathlib.Omega.{arith}
use mathlib.Core.Path.{refl}
use Rattle.std.proofs.lemmas.Result.{err_from_is_err_and}
use Rattle.base_lists.proofs.EveryLaws.{all_bytes}
use Rattle.base_buffer.proofs.AnswerLaws.{unless_is, unless_not, wrote_refused, wrote_done}
use borrow.Author.Rules.{rules}
use Rattle.base_sink.proofs.PageLaws.{page_lays}
use Rattle.write_measure.proofs.MeasuredLaws.{taken}
use Rattle.write_measure.proofs.FewLaws.{line_few}
use Rattle.write_record.proofs.write.write_judged.Goals as goal

pub returns-in_err-refusal : goal.returns-in_err-refusal
returns-in_err-refusal c =
    let p = err_from_is_err_and c.from_residual.result c.from_residual.ensures.1 in
    rw (p.1, p.2) (wrote_refused (unless_not _ c.refusal.ensures c.in_err-refusal.was))

pub returns : goal.returns
returns c =
    let a = c.args in
    let none = (unless_is c.refusal.ensures c.in_ok-refusal.was).0 in
    let form = (taken _ _ _ _ _ none).1 in
    let line = page_lays refl c.put_line.ensures.line (search rules) in
    let bytes = all_bytes a.sheet.now (λ i. omega (arith, c.type_inv.sheet i)) in
    let few = line_few a.sheet.now a.start a.end a.strand a.phase form.0 bytes (omega arith) (omega arith) form.1 in
    wrote_done none (omega (arith, line.end)) (omega (arith, line.end)) line
