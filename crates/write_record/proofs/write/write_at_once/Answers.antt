-- `write_at_once`: refused, or the line, which is at most three times as long as the sheet. Assumes nothing.
use native.Mathlib.Omega.{arith}
use mathlib.Core.Path.{◌≡◌, refl, sym, ◌∙◌}
use borrow.Author.Tests.{lt-ltb, le-ltb}
use borrow.Author.Rules.{rules}
use Rattle.std.specs.Prelude.{ℕ, List, [], Some, Err}
use Rattle.base_lists.proofs.EveryLaws.{all_bytes}
use Rattle.base_refusals.specs.declared.Refusal.{Refusal}
use Rattle.base_buffer.specs.declared.WriteError.TheVariants.{Refused}
use Rattle.base_buffer.specs.Answer.{Reason, refusal_of, Wrote}
use Rattle.base_buffer.specs.Laid.{laid, Lays}
use Rattle.base_buffer.proofs.AnswerLaws.{unless_is, wrote_refused, wrote_done}
use Rattle.base_sink.proofs.PageLaws.{page_lays}
use Rattle.write_measure.specs.Record.{record_reasons}
use Rattle.write_measure.proofs.MeasuredLaws.{got, found, no_form}
use Rattle.write_measure.proofs.FewLaws.{line_few}
use Rattle.write_record.proofs.write.write_at_once.Goals as goal

pub returns-then-sheet-gt-MOST_TEXT : goal.returns-then-sheet-gt-MOST_TEXT
unfolding record_reasons
returns-then-sheet-gt-MOST_TEXT c = wrote_refused (rw (lt-ltb _ _ c.if-sheet-gt-MOST_TEXT.true))

pub returns-in_default : goal.returns-in_default
returns-in_default c = c.write_judged.ensures

-- where nothing was laid, the buffer is as it was
untouched : {reasons : List Reason} {text d d' : List ℕ} {at : ℕ} {r : Refusal} → refusal_of reasons ≡ Some r → text ≡ [] → Lays text d 0 d' at
    → Wrote reasons text d d' (Err (Refused r))
unfolding laid
untouched {reasons} {text} {d} e none line =
    let same = rw none at line.left in
    rw same (wrote_refused {reasons = reasons} {text = text} {d = d} e)

pub returns-then-not-put_line : goal.returns-then-not-put_line
returns-then-not-put_line c =
    let a = c.args in
    let short = le-ltb _ _ c.if-sheet-gt-MOST_TEXT.false in
    let none = no_form a.sheet.now a.start a.end a.strand a.phase short (sym c.put_line.ensures.form ∙ c.if-not-put_line.true) in
    untouched none.0 none.1 (page_lays refl c.put_line.ensures.line (search rules))

pub returns : goal.returns
returns c =
    let a = c.args in
    let short = le-ltb _ _ c.if-sheet-gt-MOST_TEXT.false in
    let form = got _ (sym c.put_line.ensures.form ∙ c.if-not-put_line.false) in
    let clear = (unless_is (c.fault.ensures.met form.0 form.1) c.in-Ok.is).0 in
    let none = sym (found a.sheet.now a.start a.end a.strand a.phase form.0 short form.1) ∙ clear in
    let line = page_lays refl c.put_line.ensures.line (search rules) in
    let bytes = all_bytes a.sheet.now (λ i. omega (arith, c.type_inv.sheet i)) in
    let few = line_few a.sheet.now a.start a.end a.strand a.phase form.0 bytes (omega arith) (omega arith) form.1 in
    wrote_done none (omega (arith, line.end)) (omega (arith, line.end)) line
