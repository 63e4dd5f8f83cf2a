-- How unfolding ends, how its sheet is laid, and that its promise allows one result. Assumes nothing.
use native.Mathlib.Omega.{arith}
use mathlib.Core.Path.{◌≡◌, refl, sym, ap, ◌∙◌}
use mathlib.Core.List.{flat_map, append_assoc}
use Rattle.std.specs.Prelude.{Result, Ok, Err, List, ℕ, ◌+◌, ◌*◌, ◌≤◌, ◌<◌, length}
use borrow.Author.Tests.{lt-ltb}
use Rattle.base_lists.specs.Limits.{most_line}
use Rattle.base_refusals.specs.declared.Refusal.{Refusal}
use Rattle.base_refusals.specs.declared.Refusal.TheVariants as refusal
use Rattle.base_buffer.specs.declared.WriteError.{WriteError}
use Rattle.base_buffer.specs.declared.WriteError.TheVariants.{Refused, NoRoom}
use Rattle.base_buffer.specs.Answer.{Wrote}
use Rattle.base_buffer.specs.Laid.{Lays}
use Rattle.base_buffer.proofs.AnswerLaws.{wrote_one, wrote_refused, wrote_no_room, wrote_done}
use Rattle.base_buffer.proofs.LaidLaws.{lays_then, lays_again}
use Rattle.read_columns.specs.declared.bounds.Bounds.{Bounds}
use Rattle.sheet_form.specs.Sheet.{Sheet, count_of, counted_of, attribute_of, sheet_of}
use Rattle.read_judge.specs.declared.judging.Numbers.{Numbers}
use Rattle.read_judge.specs.Judge.{unfolded, numbers_of, unfold_reasons}
use Rattle.read_judge.specs.Survey.{admitted, surveyed}
use Rattle.read_judge.proofs.SurveyLaws.{sheet_few, admitted_is, admitted_not, told, told_refused}
use Rattle.read_record.specs.Inner.Texts.{texts_of}
use Rattle.read_record.specs.Unfold.{with_numbers, Unfolds}

-- ── one result ────────────────────────────────────────────────────────────────────────────────

-- any two results, and any two contents of the buffer, that unfolding's promise allows are equal
pub unfolds_one : {s d d₁ d₂ : List ℕ} {r₁ r₂ : Result (Numbers × ℕ) WriteError} → Unfolds s d d₁ r₁ → Unfolds s d d₂ r₂ → (r₁ ≡ r₂) × (d₁ ≡ d₂)
unfolds_one {s} p q =
    let e = wrote_one p.wrote q.wrote in (p.same ∙ ap (with_numbers (numbers_of s)) e.0 ∙ sym q.same, e.1)

-- whatever its writer answers of the sheet, unfolding may answer with the line's numbers
pub wrote_unfolds : (s : List ℕ) {d d' : List ℕ} (w : Result ℕ WriteError) → Wrote (unfold_reasons s) (sheet_of (unfolded s)) d d' w
    → Unfolds s d d' (with_numbers (numbers_of s) w)
wrote_unfolds s (Ok n) p = record { wrote = p; same = refl }
wrote_unfolds s (Err e) p = record { wrote = p; same = refl }

-- ── the sheet ─────────────────────────────────────────────────────────────────────────────────

-- its sections, laid one after the other, the count of the attributes when they are laid
pub lays_sheet : (s : Sheet) {d d₁ d₂ d₃ d₄ : List ℕ} {r₁ r₂ r₃ r₄ k : ℕ} → Lays (texts_of s) d 0 d₁ r₁ → Lays (count_of 0) d₁ r₁ d₂ r₂
    → Lays (flat_map attribute_of s.attributes) d₂ r₂ d₃ r₃ → k ≡ length s.attributes → Lays (count_of k) d₃ r₁ d₄ r₄
    → Lays (sheet_of s) d 0 d₄ r₃
unfolding sheet_of counted_of count_of
lays_sheet s texts none rest e count = simp append_assoc at (lays_then texts (lays_again refl none rest (rw e at count)))

-- ── unfolding ─────────────────────────────────────────────────────────────────────────────────

module _ (s d : List ℕ) where
  -- a line that is too long
  pub unfolds_long : most_line < length s → Unfolds s d d (Err (Refused refusal.TooLong))
  unfolds_long h = wrote_unfolds s (Err (Refused refusal.TooLong)) (wrote_refused (rw (lt-ltb _ _ h)))

  -- at once: the sheet fits
  pub unfolds_not : {r : Refusal} → admitted s ≡ Err r → Unfolds s d d (Err (Refused r))
  unfolds_not e = wrote_unfolds s _ (wrote_refused (admitted_not s e))

  pub unfolds_at_once : {numbers : Numbers} {b : Bounds} {d' : List ℕ} {r : ℕ} → admitted s ≡ Ok (numbers, b)
      → 26 + 10 * length s ≤ length d → Lays (sheet_of (unfolded s)) d 0 d' r → Unfolds s d d' (Ok (numbers, r))
  unfolds_at_once {r = r} e room p =
      let t = admitted_is s e in
      let k : r ≡ length (sheet_of (unfolded s)) = omega (arith, p.end, sheet_few s) in
      rw t.1 (wrote_unfolds s _ (wrote_done t.0 k (omega (arith, p.end)) p))

  -- as it was surveyed
  pub unfolds_refused : {r : Refusal} → surveyed s ≡ Err r → Unfolds s d d (Err (Refused r))
  unfolds_refused e = wrote_unfolds s _ (wrote_refused (told_refused s e))

  module _ {numbers : Numbers} {b : Bounds} {l : ℕ} (e : surveyed s ≡ Ok (numbers, b, l)) where
    pub unfolds_no_room : length d < l → Unfolds s d d (Err (NoRoom l))
    unfolds_no_room h = let t = told s e in wrote_unfolds s _ (wrote_no_room t.no_reason t.length_is h)

    pub unfolds_done : {d' : List ℕ} {r : ℕ} → l ≤ length d → Lays (sheet_of (unfolded s)) d 0 d' r
        → Unfolds s d d' (Ok (numbers, l))
    unfolds_done h p =
        let t = told s e in rw t.numbers_are (wrote_unfolds s _ (wrote_done t.no_reason t.length_is h p))
