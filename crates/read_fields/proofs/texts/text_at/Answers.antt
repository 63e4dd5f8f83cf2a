-- `text_at`: the line's own bounds first, then the column decoded. Assumes nothing.
use mathlib.Core.Path.{◌≡◌, refl, sym, ◌∙◌}
use Rattle.std.specs.Prelude.{Bool, true, false, cond, not, Some, Result, Ok, Err, [], ◌∷◌}
use Rattle.std.proofs.lemmas.Result.{err_from_is_err_and}
use Rattle.base_scan.specs.declared.place.Place.{Place}
use Rattle.base_refusals.specs.declared.Refusal.{Refusal}
use Rattle.base_refusals.specs.declared.Refusal.TheVariants as refusal
use Rattle.base_buffer.specs.Answer.{◌when◌, refusal_of}
use Rattle.base_buffer.proofs.AnswerLaws.{wrote_refused}
use Rattle.read_columns.specs.Columns.{is_own, column_place, column_at}
use Rattle.read_fields.proofs.texts.text_at.Goals as goal

refused : (place : Place) (t : Bool) {r : Refusal} → cond t (Ok place) (Err refusal.Columns) ≡ Err r
    → refusal_of ((refusal.Columns when not t) ∷ []) ≡ Some r
refused place true e = absurd cc
refused place false e = cc

read : (t : Bool) {place p : Place} → ◌≡◌ {A = Result Place Refusal} (cond t (Ok place) (Err refusal.Columns)) (Ok p)
    → (t ≡ true) × (place ≡ p)
read true e = (refl, cc)
read false e = absurd cc

pub returns-in_err-place : goal.returns-in_err-place
unfolding column_at
returns-in_err-place c =
    let a = c.args in
    let p = err_from_is_err_and c.from_residual.result c.from_residual.ensures.1 in
    rw (p.1, p.2) (wrote_refused (refused (column_place a.column a.line.now) (is_own a.line.now a.bounds) (sym c.column_at.ensures ∙ c.in_err-place.was)))

pub returns : goal.returns
unfolding column_at
returns c =
    let a = c.args in
    let own = read (is_own a.line.now a.bounds) (sym c.column_at.ensures ∙ c.in_ok-place.was) in
    let wrote = rw (c.text.ensures, ← own.1) at c.decode.ensures in
    record { result = rw own.0 wrote.result; left = wrote.left }
