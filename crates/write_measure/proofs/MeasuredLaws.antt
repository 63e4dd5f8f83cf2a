-- What the verdict says: where no reason holds, the sheet is short and has the form. Assumes nothing.
use Prim.Native.Nat.{ℕ, ◌≤◌}
use mathlib.Core.Path.{◌≡◌, refl, sym}
use mathlib.Core.Bool.{true, false, true≢false}
use Rattle.std.specs.Prelude.{Option, Some, None, is_some}
use mathlib.Core.List.{List, []}
use lib.Dec.{ltb}
use lib.ListN.{length}
use borrow.Author.Tests.{ltb-false, not-false}
use Rattle.base_lists.specs.Limits.{most_text}
use Rattle.base_buffer.specs.Answer.{refusal_of}
use Rattle.base_buffer.proofs.AnswerLaws.{none_holds}
use Rattle.sheet_form.specs.Sheet.{Sheet, sheet_read}
use Rattle.base_refusals.specs.declared.Refusal.TheVariants as refusal
use Rattle.write_line.proofs.CountLaws.{no_line}
use Rattle.write_measure.specs.Record.{faults, fault_reasons, record_reasons, record_line}

-- a sheet that has the form is one
pub got : (m : Option Sheet) → is_some m ≡ true → (s : Sheet) × (m ≡ Some s)
got None e = absurd (true≢false (sym e))
got (Some s) e = (s, refl)

-- where no reason holds, the sheet is short and has the form
pub taken : (sheet : List ℕ) (start end strand phase : ℕ) → refusal_of (record_reasons sheet start end strand phase) ≡ None
    → (length sheet ≤ most_text) × ((s : Sheet) × (sheet_read sheet ≡ Some s))
unfolding record_reasons
taken sheet start end strand phase e =
    let short = none_holds _ _ _ e in
    let form = none_holds _ _ _ short.1 in
    (ltb-false _ _ short.0, got (sheet_read sheet) (not-false (is_some (sheet_read sheet)) form.0))

-- of a sheet that is not too long the reasons are its faults
pub found : (sheet : List ℕ) (start end strand phase : ℕ) (s : Sheet) → ltb most_text (length sheet) ≡ false → sheet_read sheet ≡ Some s
    → refusal_of (fault_reasons (faults (Some s) start end strand phase)) ≡ refusal_of (record_reasons sheet start end strand phase)
unfolding record_reasons
found sheet start end strand phase s h e = rw (h, e)

-- of a sheet that is not too long and has not the form, that is the first reason, and its line is empty
pub no_form : (sheet : List ℕ) (start end strand phase : ℕ) → ltb most_text (length sheet) ≡ false → is_some (sheet_read sheet) ≡ false
    → (refusal_of (record_reasons sheet start end strand phase) ≡ Some refusal.Sheet) × (record_line sheet start end strand phase ≡ [])
unfolding record_reasons record_line
no_form sheet start end strand phase h e = (rw (h, e), no_line _ (sheet_read sheet) start end strand phase e)
