-- `type_and_score`: the third and the fourth section of a sheet; where one of the four breaks off, there is no sheet. Assumes nothing.
use mathlib.Core.Path.{◌≡◌, refl}
use Rattle.base_scan.specs.Part.{text_at}
use Rattle.sheet_form.specs.Sheet.{read_sheet}
use Rattle.sheet_form.proofs.CursorLaws.{section_meets}
use Rattle.sheet_form.proofs.PastLaws.{past_then, past_stop, past_whole, texts_read}
use Rattle.write_line.proofs.PassLaws.{passes_section, passes_none}
use Rattle.write_measure.proofs.reasons.type_and_score.Goals as goal

pub returns-in_err-name-clause-read : goal.returns-in_err-name-clause-read
unfolding read_sheet
returns-in_err-name-clause-read c s e =
    absurd (past_whole {P = λ x. ⊥} {s = c.args.sheet.now} (past_stop _ (passes_none {P = λ t. ⊥} (section_meets _ _ c.section_at.ensures c.in_err-name.was)) refl) s e)

pub returns-in_err-source-clause-read : goal.returns-in_err-source-clause-read
unfolding read_sheet
returns-in_err-source-clause-read c s e =
    let name = passes_section {P = λ t. Unit {0}} (section_meets _ _ c.section_at.ensures c.in_ok-name.was) tt in
    let source = passes_none {P = λ t. ⊥} (section_meets _ _ c.section_at-2.ensures c.in_err-source.was) in
    absurd (past_whole {P = λ x. ⊥} {s = c.args.sheet.now} (past_then _ name refl (λ n x. past_stop _ source refl)) s e)

pub returns-in_err-ty-clause-read : goal.returns-in_err-ty-clause-read
unfolding read_sheet
returns-in_err-ty-clause-read c s e =
    let name = passes_section {P = λ t. Unit {0}} (section_meets _ _ c.section_at.ensures c.in_ok-name.was) tt in
    let source = passes_section {P = λ t. Unit {0}} (section_meets _ _ c.section_at-2.ensures c.in_ok-source.was) tt in
    let ty = passes_none {P = λ t. ⊥} (section_meets _ _ c.section_at-3.ensures c.in_err-ty.was) in
    absurd (past_whole {P = λ x. ⊥} {s = c.args.sheet.now} (past_then _ name refl (λ n x. past_then _ source refl (λ o y. past_stop _ ty refl))) s e)

pub returns-in_err-score-clause-read : goal.returns-in_err-score-clause-read
unfolding read_sheet
returns-in_err-score-clause-read c s e =
    let name = passes_section {P = λ t. Unit {0}} (section_meets _ _ c.section_at.ensures c.in_ok-name.was) tt in
    let source = passes_section {P = λ t. Unit {0}} (section_meets _ _ c.section_at-2.ensures c.in_ok-source.was) tt in
    let ty = passes_section {P = λ t. Unit {0}} (section_meets _ _ c.section_at-3.ensures c.in_ok-ty.was) tt in
    let score = passes_none {P = λ t. ⊥} (section_meets _ _ c.section_at-4.ensures c.in_err-score.was) in
    absurd (past_whole {P = λ x. ⊥} {s = c.args.sheet.now} (past_then _ name refl (λ n x. past_then _ source refl
    (λ o y. past_then _ ty refl (λ t z. past_stop _ score refl)))) s e)

pub returns-clause-read : goal.returns-clause-read
returns-clause-read c s e =
    let text = c.args.sheet.now in
    let name = passes_section {P = λ t. Unit {0}} (section_meets _ _ c.section_at.ensures c.in_ok-name.was) tt in
    let source = passes_section {P = λ t. Unit {0}} (section_meets _ _ c.section_at-2.ensures c.in_ok-source.was) tt in
    let ty = passes_section {P = λ t. text_at c.in_ok-ty.ty text ≡ t} (section_meets _ _ c.section_at-3.ensures c.in_ok-ty.was) refl in
    let score = passes_section {P = λ t. text_at c.in_ok-score.score text ≡ t} (section_meets _ _ c.section_at-4.ensures c.in_ok-score.was) refl in
    let read = texts_read name source ty score s e in
    (read.2, read.3)
