-- Laws of blank lines that a part begins with: how many bytes are skipped, and what is left of it. Assumes nothing.
use Prim.Native.Nat.{ℕ, ◌+◌, ◌-◌, ◌≤◌, ◌<◌}
use native.Mathlib.Omega.{arith}
use mathlib.Core.Path.{◌≡◌, refl, sym}
use mathlib.Core.Logic.{◌⊎◌, inl, inr}
use mathlib.Core.Bool.{Bool, true, false}
use mathlib.Core.List.{List, ◌∷◌, ◌++◌}
use lib.Dec.{eqb}
use lib.ListN.{length, take, drop, get_or, length-append, length-drop}
use lib.Seq.{take_all, drop-append-add}
use borrow.Author.Tests.{eqb-true, eqb-false}
use Rattle.base_lists.specs.Bytes.{lf, cr}
use Rattle.base_lists.proofs.BoolLaws.{by_test}
use Rattle.base_lists.proofs.OrderLaws.{le_or_lt}
use Rattle.read_lines.specs.Blank.{blank_run}
use Rattle.read_lines.proofs.BlankLaws.{run_le, run_feed, run_return, run_no_feed}
use Rattle.read_parts.specs.declared.state.Tail.{Tail}
use Rattle.read_parts.specs.declared.state.Tail.TheVariants.{Fits, Waits, Long}
use Rattle.read_parts.specs.declared.state.State.{State}
use Rattle.read_parts.specs.State.{holds, is_long, is_blank, waiting, new, skipped}

-- no more than the part
pub skipped_le : (s : State) (p : List ℕ) → skipped s p ≤ length p
unfolding skipped
skipped_le s p =
    by_test (λ n. n ≤ length p) (is_blank s)
    (λ e. omega (arith, run_le (new s p), length-append (waiting s.tail) p))
    (λ e. omega arith)

-- what is left behind it
pub rest_is : (n : ℕ) (p : List ℕ) → take (length p - n) (drop n p) ≡ drop n p
rest_is n p = take_all (length p - n) (drop n p) (simp length-drop (omega arith))

-- nothing, where the line has a byte
pub skips_none : (s : State) (p : List ℕ) → is_blank s ≡ false → skipped s p ≡ 0
unfolding skipped
skips_none s p e = rw e

-- by the tail, where nothing is held
module _ (s : State) (p : List ℕ) (none : s.held ≡ 0) where
  pub skipped_fits : s.tail ≡ Fits → skipped s p ≡ blank_run p
  unfolding skipped
  skipped_fits e = rw (none, e) (omega arith)

  pub skipped_waits : s.tail ≡ Waits → skipped s p ≡ blank_run (cr ∷ p) - 1
  unfolding skipped
  skipped_waits e = rw (none, e)

  pub skipped_long : s.tail ≡ Long → skipped s p ≡ 0
  unfolding skipped
  skipped_long e = rw (none, e)

-- ── where the line is blank so far ────────────────────────────────────────────────────────────

-- there is no run, or one that is longer than what waited
run_waiting : (t : Tail) (p : List ℕ) → (blank_run (waiting t ++ p) ≤ 0) ⊎ (length (waiting t) < blank_run (waiting t ++ p))
run_waiting Fits p = le_or_lt (blank_run p) 0
run_waiting Long p = le_or_lt (blank_run p) 0
run_waiting Waits p = go (eqb (get_or p 0 0) lf) refl
  where
    go : (t : Bool) → eqb (get_or p 0 0) lf ≡ t → (blank_run (cr ∷ p) ≤ 0) ⊎ (1 < blank_run (cr ∷ p))
    go true e = let f = eqb-true (get_or p 0 0) lf e in inr (omega (arith, run_return p f, run_feed p f))
    go false e = inl (omega (arith, run_no_feed p (eqb-false (get_or p 0 0) lf e)))

module _ (t : Tail) (short : is_long t ≡ false) (p : List ℕ) where
  abbrev run : ℕ
  run = blank_run (waiting t ++ p)

  abbrev n : ℕ
  n = skipped (holds 0 t) p

  -- nothing is skipped, and what is new is no blank line; or all that is one is, what waited among it
  pub data Skips : Type 0 where
    stays : n ≡ 0 → run ≡ 0 → Skips
    goes : 0 < n → drop n p ≡ drop run (waiting t ++ p) → Skips

  skipped_is : n ≡ run - length (waiting t)
  unfolding skipped
  skipped_is = rw short

  pub skips : Skips
  skips = go (run_waiting t p)
    where
      go : (run ≤ 0) ⊎ (length (waiting t) < run) → Skips
      go (inl h) = stays (omega (arith, skipped_is)) (omega arith)
      go (inr h) =
          let e : run ≡ length (waiting t) + n = omega (arith, skipped_is) in
          goes (omega (arith, skipped_is)) (rw e (sym (drop-append-add (waiting t) p n)))
