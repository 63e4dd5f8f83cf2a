-- What is known of a record where no reason holds to refuse it, and how its score, strand and phase are read. Assumes nothing.
use Prim.Native.Nat.{ℕ, zero, suc, ◌≤◌}
use native.Mathlib.Omega.{arith}
use mathlib.Core.Path.{◌≡◌, refl, sym, ap, ◌∙◌}
use mathlib.Core.Logic.{◌≢◌}
use mathlib.Core.Bool.{Bool, true, false, cond, not, ◌||◌, true≢false}
use mathlib.Core.List.{List, [], ◌∷◌}
use Rattle.std.specs.Prelude.{Option, Some, None, is_some}
use lib.Dec.{eqb, ltb}
use Rattle.std.specs.Prelude.{None, Ok}
use lib.ListN.{length}
use borrow.Author.Tests.{ltb-false, ne_eqb}
use Rattle.base_lists.specs.Bytes.{Bytes, Lacks}
use Rattle.base_lists.specs.Limits.{most_text}
use Rattle.base_buffer.specs.Answer.{refusal_of}
use Rattle.base_buffer.proofs.AnswerLaws.{none_holds}
use Rattle.read_tokens.specs.declared.strand.Strand.{Strand}
use Rattle.read_tokens.specs.declared.strand.Strand.TheVariants as strand
use Rattle.read_tokens.specs.declared.phase.Phase.{Phase}
use Rattle.read_tokens.specs.declared.phase.Phase.TheVariants as phase
use Rattle.base_lists.proofs.BoolLaws.{or_left, or_right}
use Rattle.base_lists.proofs.OrderLaws.{some_number}
use Rattle.base_words.specs.Same.{is_dot}
use Rattle.read_tokens.specs.Tokens.{strand_number, strand_of, strand_byte, phase_number, phase_of, phase_byte}
use Rattle.read_score.specs.Score.{is_score}
use Rattle.read_tokens.proofs.TokensLaws.{strand_back, phase_back}
use Rattle.read_score.proofs.ScoreLaws.{is_score_byte, score_lacks, score_no_dot}
use Rattle.sheet_form.specs.Sheet.{Sheet, sheet_read, sheet_of}
use Rattle.sheet_form.proofs.SheetLaws.{GoodSheet, of_read}
use Rattle.write_measure.specs.Record.{asked, bad_score, record_reasons, score_column}
use Rattle.read_judge.specs.Judge as judge
use Rattle.read_judge.specs.Judge.{no_score}

-- ── what the writer asks ──────────────────────────────────────────────────────────────────────

-- the text is that of a sheet, not too long, whose score is missing or a token, and the numbers are in their ranges
pub record AcceptedRecord (text : List ℕ) (start end strand phase : ℕ) : Type 0 where
  pub sheet : Sheet
  pub reads : sheet_read text ≡ Some sheet
  pub good : GoodSheet sheet
  pub whole : text ≡ sheet_of sheet
  pub short : length text ≤ most_text
  pub some_start : 1 ≤ start
  pub some_end : 1 ≤ end
  pub fit_score : bad_score sheet ≡ false
  pub strand_known : strand ≤ 3
  pub phase_known : phase ≤ 3

pub accepted : (text : List ℕ) (start end strand phase : ℕ) → Bytes text → refusal_of (record_reasons text start end strand phase) ≡ None
    → AcceptedRecord text start end strand phase
unfolding record_reasons
accepted text start end strand phase bytes e =
    let a = none_holds (ltb most_text (length text)) _ _ e in
    let b = none_holds (not (is_some (sheet_read text))) _ _ a.1 in
    let c = none_holds (eqb start 0 || eqb end 0) _ _ b.1 in
    let d = none_holds (asked bad_score (sheet_read text)) _ _ c.1 in
    let f = none_holds (ltb 3 strand) _ _ d.1 in
    let g = none_holds (ltb 3 phase) _ _ f.1 in
    go (sheet_read text) refl b.0 d.0 (ltb-false _ _ a.0) (some_number start (or_left (eqb start 0) (eqb end 0) c.0))
    (some_number end (or_right (eqb start 0) (eqb end 0) c.0)) (ltb-false _ _ f.0) (ltb-false _ _ g.0)
  where
    go : (o : Option Sheet) → sheet_read text ≡ o → not (is_some o) ≡ false → asked bad_score o ≡ false → length text ≤ most_text
        → 1 ≤ start → 1 ≤ end
        → strand ≤ 3 → phase ≤ 3 → AcceptedRecord text start end strand phase
    go None p known q h₁ h₂ h₃ h₄ h₅ = absurd (true≢false known)
    go (Some s) p known q h₁ h₂ h₃ h₄ h₅ =
        let r = of_read text s bytes p in
        record {
          sheet = s;
          reads = p;
          good = r.0;
          whole = r.1;
          short = h₁;
          some_start = h₂;
          some_end = h₃;
          fit_score = q;
          strand_known = h₄;
          phase_known = h₅;
        }

-- ── strand and phase: the numbers and their bytes ─────────────────────────────────────────────

-- the strand of a number, and the phase
unfoldable pub strand_numbered : ℕ → Strand
strand_numbered zero = strand.None
strand_numbered (suc zero) = strand.Forward
strand_numbered (suc (suc zero)) = strand.Reverse
strand_numbered (suc (suc (suc n))) = strand.Unknown

unfoldable pub phase_numbered : ℕ → Phase
phase_numbered zero = phase.Zero
phase_numbered (suc zero) = phase.One
phase_numbered (suc (suc zero)) = phase.Two
phase_numbered (suc (suc (suc n))) = phase.None

pub strand_numbered_is : (n : ℕ) → n ≤ 3 → strand_number (strand_numbered n) ≡ n
unfolding strand_number strand_numbered
strand_numbered_is zero h = refl
strand_numbered_is (suc zero) h = refl
strand_numbered_is (suc (suc zero)) h = refl
strand_numbered_is (suc (suc (suc n))) h = omega arith

pub phase_numbered_is : (n : ℕ) → n ≤ 3 → phase_number (phase_numbered n) ≡ n
unfolding phase_number phase_numbered
phase_numbered_is zero h = refl
phase_numbered_is (suc zero) h = refl
phase_numbered_is (suc (suc zero)) h = refl
phase_numbered_is (suc (suc (suc n))) h = omega arith

-- what is written for a number is read as the strand, or the phase, of that number
pub strand_byte_back : (n : ℕ) → n ≤ 3 → strand_of (strand_byte n ∷ []) ≡ Ok (strand_numbered n)
strand_byte_back n h = ap (λ k. strand_of (strand_byte k ∷ [])) (sym (strand_numbered_is n h)) ∙ strand_back (strand_numbered n)

pub phase_byte_back : (n : ℕ) → n ≤ 3 → phase_of (phase_byte n ∷ []) ≡ Ok (phase_numbered n)
phase_byte_back n h = ap (λ k. phase_of (phase_byte k ∷ [])) (sym (phase_numbered_is n h)) ∙ phase_back (phase_numbered n)

-- ── the score ─────────────────────────────────────────────────────────────────────────────────

-- a score that is missing or a token
abbrev pub Fit : List ℕ → Type 0
Fit s = not (eqb (length s) 0 || is_score s) ≡ false

-- one that is not missing is a token, and so not `.`
token : (x : ℕ) (s : List ℕ) → Fit (x ∷ s) → is_score (x ∷ s) ≡ true
token x s e = go (is_score (x ∷ s)) (rw (ne_eqb (suc (length s)) 0 (omega arith)) at e)
  where
    go : (t : Bool) → not t ≡ false → t ≡ true
    go true e = refl
    go false e = sym e

no_dot : (s : List ℕ) → is_score s ≡ true → is_dot s ≡ false
unfolding is_dot
no_dot [] e = refl
no_dot (x ∷ []) e = ne_eqb x 46 (λ same. true≢false (sym (rw same at e) ∙ score_no_dot))
no_dot (x ∷ y ∷ s) e = refl

-- what is written for a score is no longer than it, but for the `.`; it is read as the score; and it lacks what no token and no `.` has
pub length_score : (s : List ℕ) → length (score_column s) ≤ suc (length s)
unfolding score_column
length_score [] = omega arith
length_score (x ∷ s) = omega arith

pub score_read : (s : List ℕ) → Fit s → (no_score (score_column s) ≡ false) × (judge.score_of_token (score_column s) ≡ s)
unfolding score_column judge.score_of_token is_dot
score_read [] e = (refl, refl)
score_read (x ∷ s) e = let t = token x s e in (rw (no_dot (x ∷ s) t, t), rw (no_dot (x ∷ s) t))

pub score_column_lacks : (c : ℕ) → is_score_byte c ≡ false → 46 ≢ c → (s : List ℕ) → Fit s → Lacks c (score_column s)
unfolding score_column
score_column_lacks c other dot [] e = (dot, tt)
score_column_lacks c other dot (x ∷ s) e = score_lacks c other (x ∷ s) (token x s e)

-- what is read of a score is raw, or nothing
pub score_bytes : (s : List ℕ) → Bytes s → Bytes (judge.score_of_token s)
unfolding judge.score_of_token
score_bytes s h = go (is_dot s)
  where
    go : (t : Bool) → Bytes (cond t [] s)
    go true = tt
    go false = h
