-- Laws of blank lines: those that a text begins with are none of its lines, behind them no other follows at once, and a line that begins
-- there has a byte. Assumes nothing.
use Prim.Native.Nat.{ℕ, suc, ◌+◌, ◌≤◌, ◌<◌}
use native.Mathlib.Omega.{arith}
use native.Mathlib.Nat.{add-zero}
use mathlib.Core.Path.{◌≡◌, refl, sym, ap, ◌∙◌}
use mathlib.Core.Logic.{◌≢◌, ◌⊎◌, inl, inr}
use mathlib.Core.Bool.{Bool, true, false, cond, ◌&&◌, ◌||◌, true≢false}
use mathlib.Core.List.{List, [], ◌∷◌, ◌++◌}
use lib.Dec.{eqb}
use lib.ListN.{length, drop, get_or, length-drop, get_or-eq_default}
use lib.Seq.{get_or-drop, drop-drop}
use borrow.Author.Tests.{eqb-true, ne_eqb}
use Rattle.base_lists.specs.Bytes.{lf, cr}
use Rattle.base_lists.proofs.BoolLaws.{by_test}
use Rattle.base_lists.proofs.OrderLaws.{le_or_lt}
use Rattle.base_scan.specs.Find.{index, is, found}
use Rattle.base_scan.proofs.FindLaws.{seek_at}
use Rattle.read_lines.specs.Blank.{blank_at, blank_run, past_blank}
use Rattle.read_lines.specs.Lines.{chomped, unless_blank, lines_after, lines}

-- ── none of a text's lines ────────────────────────────────────────────────────────────────────

-- the two ways in which a byte belongs to a blank line
blank_ways : (x : ℕ) (s : List ℕ) → blank_at (x ∷ s) 0 ≡ true → (x ≡ lf) ⊎ ((x ≡ cr) × (get_or s 0 0 ≡ lf))
blank_ways x s e = go (eqb x lf) refl (eqb x cr) refl (eqb (get_or s 0 0) lf) refl e
  where
    go : (a : Bool) → eqb x lf ≡ a → (b : Bool) → eqb x cr ≡ b → (c : Bool) → eqb (get_or s 0 0) lf ≡ c → (a || (b && c)) ≡ true
        → (x ≡ lf) ⊎ ((x ≡ cr) × (get_or s 0 0 ≡ lf))
    go true p b q c r e = inl (eqb-true x lf p)
    go false p true q true r e = inr (eqb-true x cr q, eqb-true (get_or s 0 0) lf r)
    go false p true q false r e = absurd (true≢false (sym e))
    go false p false q c r e = absurd (true≢false (sym e))

-- such a byte may go
lines_blank : (x : ℕ) (s z : List ℕ) → (x ≡ lf) ⊎ ((x ≡ cr) × (get_or s 0 0 ≡ lf)) → lines (x ∷ s ++ z) ≡ lines (s ++ z)
unfolding lines_after unless_blank chomped
lines_blank x s z (inl e) = rw e
lines_blank x [] z (inr (e, f)) = absurd (omega arith)
lines_blank x (y ∷ s) z (inr (e, f)) = rw (e, f)

-- so all of them may
pub lines_past : (s z : List ℕ) → lines (s ++ z) ≡ lines (drop (blank_run s) s ++ z)
unfolding blank_run
lines_past [] z = refl
lines_past (x ∷ s) z =
    by_test (λ n. lines (x ∷ s ++ z) ≡ lines (drop n (x ∷ s) ++ z)) (blank_at (x ∷ s) 0)
    (λ e. lines_blank x s z (blank_ways x s e) ∙ lines_past s z)
    (λ e. refl)

-- they are no longer than the text
pub run_le : (s : List ℕ) → blank_run s ≤ length s
unfolding blank_run
run_le [] = omega arith
run_le (x ∷ s) = by_test (λ n. n ≤ suc (length s)) (blank_at (x ∷ s) 0) (λ e. omega (arith, run_le s)) (λ e. omega arith)

-- a line feed that a text begins with belongs to them
pub run_feed : (s : List ℕ) → get_or s 0 0 ≡ lf → 0 < blank_run s
unfolding blank_run
run_feed [] e = absurd (omega arith)
run_feed (x ∷ s) e = rw e (omega arith)

-- and so does a carriage return, where the line feed follows it at once
module _ (s : List ℕ) where
  pub run_return : get_or s 0 0 ≡ lf → blank_run (cr ∷ s) ≡ suc (blank_run s)
  unfolding blank_run
  run_return e = rw e

  pub run_no_feed : get_or s 0 0 ≢ lf → blank_run (cr ∷ s) ≡ 0
  unfolding blank_run
  run_no_feed h = rw (ne_eqb (get_or s 0 0) lf h)

-- ── behind them ───────────────────────────────────────────────────────────────────────────────

-- no other follows at once
pub run_passed : (s : List ℕ) → blank_run (drop (blank_run s) s) ≡ 0
unfolding blank_run
run_passed [] = refl
run_passed (x ∷ s) =
    by_test (λ n. blank_run (drop n (x ∷ s)) ≡ 0) (blank_at (x ∷ s) 0) (λ e. run_passed s) (λ e. rw e)

-- no line feed stands at once
index_some : (s : List ℕ) → blank_run s ≡ 0 → 0 < length s → 0 < index (is lf) s
unfolding index
index_some [] e h = absurd (omega arith)
index_some (x ∷ s) e h =
    by_test (λ n. 0 < n) (eqb x lf) (λ t. absurd (omega (arith, run_feed (x ∷ s) (eqb-true x lf t)))) (λ t. omega arith)

-- a line that a line feed ends has a byte
pub has_byte : (l z : List ℕ) → blank_run (l ++ lf ∷ z) ≡ 0 → 0 < length (chomped l)
unfolding blank_run chomped
has_byte [] z e = absurd (omega arith)
has_byte (x ∷ y ∷ l) z e = omega arith
has_byte (x ∷ []) z e = go (eqb x lf) (eqb x cr) e
  where
    go : (a b : Bool) → cond (a || (b && true)) (suc (blank_run (lf ∷ z))) 0 ≡ 0 → 0 < length (cond b [] (x ∷ []))
    go a false e = omega arith
    go true true e = absurd (omega arith)
    go false true e = absurd (omega arith)

-- ── from a cursor on ──────────────────────────────────────────────────────────────────────────

run_next : (s : List ℕ) → blank_at s 0 ≡ true → blank_run s ≡ suc (blank_run (drop 1 s))
unfolding blank_run
run_next [] e = absurd (true≢false (sym e))
run_next (x ∷ s) e = rw e

run_none : (s : List ℕ) → blank_at s 0 ≡ false → blank_run s ≡ 0
unfolding blank_run
run_none [] e = refl
run_none (x ∷ s) e = rw e

module _ (s : List ℕ) (at : ℕ) where
  -- a place by what stands from it on
  blank_drop : blank_at (drop at s) 0 ≡ blank_at s at
  blank_drop = rw (get_or-drop at s 0 0, get_or-drop at s 1 0, add-zero at)

  -- beyond the text there is none
  pub blank_beyond : length s ≤ at → blank_at s at ≡ false
  blank_beyond h = rw (get_or-eq_default s 0 h)

  pub blank_inside : blank_at s at ≡ true → at < length s
  blank_inside e = go (le_or_lt (length s) at)
    where
      go : (length s ≤ at) ⊎ (at < length s) → at < length s
      go (inl h) = absurd (true≢false (sym e ∙ blank_beyond h))
      go (inr h) = h

  -- one byte further
  pub past_next : blank_at s at ≡ true → past_blank s at ≡ past_blank s (at + 1)
  past_next e =
      let f = run_next (drop at s) (blank_drop ∙ e) ∙ ap (λ (l : List ℕ). suc (blank_run l)) (drop-drop 1 at s) in omega arith

  -- no further
  pub past_here : blank_at s at ≡ false → past_blank s at ≡ at
  past_here e = let f = run_none (drop at s) (blank_drop ∙ e) in omega arith

  -- behind them there is no run, and a line feed does not stand at once
  pub past_run : blank_run (drop (past_blank s at) s) ≡ 0
  past_run = rw (← drop-drop (blank_run (drop at s)) at s) (run_passed (drop at s))

  pub past_feed : {n k : ℕ} → n ≡ past_blank s at → k ≡ found lf n s → n < length s → n < k
  past_feed {n} e f h =
      let some = index_some (drop n s) (rw e past_run) (simp length-drop (omega arith)) in
      omega (arith, seek_at (is lf) n s (omega arith), some)
