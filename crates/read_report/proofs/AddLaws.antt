-- One line more, in a report: it adds one to all lines, and one to the sixty-four and the reversed where it adds one to the records.
-- Assumes nothing.
use Rattle.base_refusals.specs.Refusal.{number}
use Prim.Native.Nat.{ℕ, zero, suc, ◌+◌, ◌-◌, ◌^◌, ◌≤◌, ◌<◌}
use native.Mathlib.Omega.{arith}
use borrow.Author.Tests.{le-leb, lt-leb, lt-ltb}
use mathlib.Core.Path.{◌≡◌, refl, sym, ◌∙◌}
use mathlib.Core.Logic.{⊎_elim}
use mathlib.Core.Bool.{Bool, true, false, cond, not}
use mathlib.Core.List.{List, [], ◌∷◌, sum}
use lib.Dec.{eqb, ltb, leb}
use lib.ListN.{length, get_or, length-set}
use lib.Pow.{pow_mono}
use Rattle.base_lists.specs.Bit.{bit}
use Rattle.base_lists.specs.Bytes.{among}
use Rattle.base_lists.proofs.EveryLaws.{among_each}
use Rattle.base_lists.proofs.OrderLaws.{le_or_lt}
use Rattle.read_verdict.specs.declared.Verdict.{Verdict}
use Rattle.read_verdict.specs.declared.Verdict.TheVariants.{Directive, Comment, Record, Refused}
use Rattle.read_verdict.specs.Verdict.{refusals, Sound}
use Rattle.read_report.specs.declared.totals.Totals.{Totals}
use Rattle.read_report.specs.declared.totals.Report.{Report}
use Rattle.read_report.specs.Report.{above, power_to, power, length_of, raised, add_totals, add_length, add}
use Rattle.read_report.specs.Sums.{total, all_lines, Balanced}

-- ── the power of two ──────────────────────────────────────────────────────────────────────────

-- a number lies in the power that it has reached, and not passed
power_to_is : (k n i : ℕ) → i ≤ k → 2 ^ i ≤ n → n < 2 ^ suc i → power_to k n ≡ i
unfolding power_to
power_to_is zero n i h low high = omega arith
power_to_is (suc k) n i h low high =
    ⊎_elim (λ g. let e : i ≡ suc k = omega arith in rw (le-leb (2 ^ suc k) n (rw e at low)) (sym e))
    (λ g. let m : 2 ^ suc i ≤ 2 ^ suc k = pow_mono g in
    rw (lt-leb (2 ^ suc k) n (omega arith)) (power_to_is k n i (omega arith) low high)) (le_or_lt (suc k) i)

pub power_is : (n i : ℕ) → i < 64 → 2 ^ i ≤ n → n < 2 ^ suc i → power n ≡ i
power_is n i h low high = power_to_is 63 n i (omega arith) low high

power_to_le : (k n : ℕ) → power_to k n ≤ k
unfolding power_to
power_to_le zero n = omega arith
power_to_le (suc k) n = go (leb (2 ^ suc k) n) (power_to_le k n)
  where
    go : (t : Bool) → power_to k n ≤ k → cond t (suc k) (power_to k n) ≤ suc k
    go true h = omega arith
    go false h = omega arith

pub power_lt : (n : ℕ) → power n < 64
power_lt n = omega (arith, power_to_le 63 n)

-- ── counts in a list ──────────────────────────────────────────────────────────────────────────

-- no count is more than all of them
pub one_of : (l : List ℕ) (k : ℕ) → get_or l k 0 ≤ total l
unfolding sum
one_of [] k = omega arith
one_of (x ∷ l) zero = omega arith
one_of (x ∷ l) (suc k) = omega (arith, one_of l k)

total_raised : (l : List ℕ) (k : ℕ) → k < length l → total (raised k l) ≡ total l + 1
unfolding sum
total_raised [] k h = absurd (omega arith)
total_raised (x ∷ l) zero h = omega arith
total_raised (x ∷ l) (suc k) h = omega (arith, total_raised l k (omega arith))

-- ── a length more ─────────────────────────────────────────────────────────────────────────────

-- a line with a length raises its power, and any other leaves them
pub lengths_by : (l : List ℕ) (v : Verdict) → add_length l v ≡ cond (ltb 0 (length_of v)) (raised (power (length_of v)) l) l
lengths_by l Directive = refl
lengths_by l Comment = refl
lengths_by l (Refused r) = refl
lengths_by l (Record n) = go (above n)
  where
    go : (t : Bool)
        → let length = cond t 0 (n.end - n.start + 1) in
        cond (not t) (raised (power length) l) l ≡ cond (ltb 0 length) (raised (power length) l) l
    go true = refl
    go false = rw (lt-ltb 0 (n.end - n.start + 1) (omega arith))

-- ── a line more ───────────────────────────────────────────────────────────────────────────────

-- how often a refusal counts: once
abbrev times : ℕ → ℕ
times n = bit (eqb n 24) + bit (eqb n 1) + bit (eqb n 2) + bit (eqb n 17) + bit (eqb n 3) + bit (eqb n 4) + bit (eqb n 5)

once : (n : ℕ) → among refusals n ≡ true → times n ≡ 1
unfolding bit
once n h = among_each (λ n. times n ≡ 1) refusals n (refl, (refl, (refl, (refl, (refl, (refl, (refl, tt))))))) h

pub all_lines_add : (t : Totals) (v : Verdict) → Sound v → all_lines (add_totals t v) ≡ all_lines t + 1
unfolding bit
all_lines_add t Directive h = omega arith
all_lines_add t Comment h = omega arith
all_lines_add t (Record n) h = omega arith
all_lines_add t (Refused r) h = omega (arith, once (number r) h)

-- a record adds one to the sixty-four, or else to the reversed
one_of_both : (t : Bool) (n back : ℕ) (l : List ℕ) → length l ≡ 64
    → (length (cond (not t) (raised (power n) l) l) ≡ 64) × (total (cond (not t) (raised (power n) l) l) + (back + bit t) ≡ total l + back + 1)
unfolding bit
one_of_both true n back l e = (e, omega arith)
one_of_both false n back l e = (
  length-set l (power n) (get_or l (power n) 0 + 1) ∙ e,
  omega (arith, total_raised l (power n) (rw e (power_lt n))),
)

pub balanced_add : (r : Report) (v : Verdict) → Balanced r → Balanced (add r v)
unfolding bit
balanced_add r Directive h = record { sixty_four = h.sixty_four; lengths = omega (arith, h.lengths) }
balanced_add r Comment h = record { sixty_four = h.sixty_four; lengths = omega (arith, h.lengths) }
balanced_add r (Refused k) h = record { sixty_four = h.sixty_four; lengths = omega (arith, h.lengths) }
balanced_add r (Record n) h =
    let b = one_of_both (above n) (length_of (Record n)) r.totals.reversed r.lengths h.sixty_four in
    record { sixty_four = b.0; lengths = omega (arith, h.lengths, b.1) }
