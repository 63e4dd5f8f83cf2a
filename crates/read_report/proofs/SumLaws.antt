-- A text's lines, counted: what the numbers come to, and what is answered. Assumes nothing.
use Prim.Native.Nat.{ℕ, ◌+◌, ◌≤◌, ◌<◌}
use native.Mathlib.Omega.{arith}
use borrow.Author.Tests.{lt-ltb, le-ltb}
use mathlib.Core.Path.{◌≡◌, refl, ap}
use mathlib.Core.List.{List, [], ◌∷◌, map, sum}
use lib.ListN.{length}
use Rattle.read_numbers.specs.Number.{most64}
use Rattle.std.specs.Prelude.{Ok, Err}
use Rattle.base_refusals.specs.declared.Refusal.TheVariants as refusal
use Rattle.base_scan.specs.declared.place.Place.{Place}
use Rattle.base_scan.specs.Part.{text_at}
use Rattle.read_lines.specs.declared.Cursor.{Cursor}
use Rattle.read_lines.specs.Lines.{lines}
use Rattle.read_lines.specs.Step.{fresh}
use Rattle.read_lines.proofs.LinesLaws.{lines_few}
use Rattle.read_lines.proofs.StepLaws.{Hands, left}
use Rattle.read_verdict.specs.declared.Verdict.{Verdict}
use Rattle.read_verdict.specs.Verdict.{verdict}
use Rattle.read_verdict.proofs.VerdictLaws.{sound}
use Rattle.read_report.specs.declared.totals.Report.{Report}
use Rattle.read_report.specs.Report.{length_of, nothing, add, counted, morning}
use Rattle.read_report.specs.Sums.{total, all_lines, lengths_of, Balanced, AddsUp}
use Rattle.read_report.proofs.AddLaws.{all_lines_add, balanced_add}

-- ── lines in a row ────────────────────────────────────────────────────────────────────────────

all_lines_counted : (r : Report) (ls : List (List ℕ)) → all_lines (counted r ls).totals ≡ all_lines r.totals + length ls
all_lines_counted r [] = omega arith
all_lines_counted r (line ∷ ls) =
    omega (arith, all_lines_counted (add r (verdict line)) ls, all_lines_add r.totals (verdict line) (sound line))

balanced_counted : (r : Report) (ls : List (List ℕ)) → Balanced r → Balanced (counted r ls)
balanced_counted r [] h = h
balanced_counted r (line ∷ ls) h = balanced_counted (add r (verdict line)) ls (balanced_add r (verdict line) h)

sum_counted : (r : Report) (ls : List (List ℕ)) → (counted r ls).totals.sum ≡ r.totals.sum + total (map (λ line. length_of (verdict line)) ls)
unfolding sum
sum_counted r [] = omega arith
sum_counted r (line ∷ ls) = omega (arith, sum_counted (add r (verdict line)) ls)

-- ── a text ────────────────────────────────────────────────────────────────────────────────────

pub nothing_balanced : Balanced nothing
unfolding sum
nothing_balanced = record { sixty_four = refl; lengths = refl }

pub adds_up : (s : List ℕ) → AddsUp s (counted nothing (lines s))
adds_up s =
    let n = all_lines_counted nothing (lines s) in
    record {
      handed_out = omega (arith, n);
      balanced = balanced_counted nothing (lines s) nothing_balanced;
      exact = omega (arith, sum_counted nothing (lines s));
      few = omega (arith, n, lines_few s);
    }

-- ── the answer ────────────────────────────────────────────────────────────────────────────────

pub passed : (s : List ℕ) → most64 < lengths_of s → morning s ≡ Err refusal.Sum
unfolding morning
passed s h = rw (lt-ltb most64 (counted nothing (lines s)).totals.sum (omega (arith, (adds_up s).exact)))

pub not_passed : (s : List ℕ) → lengths_of s ≤ most64 → morning s ≡ Ok (counted nothing (lines s))
unfolding morning
not_passed s h = rw (le-ltb most64 (counted nothing (lines s)).totals.sum (omega (arith, (adds_up s).exact)))

-- ── while lines are left ──────────────────────────────────────────────────────────────────────

-- what is counted up to a cursor, and the lines that are left, make the whole; each line takes a byte, so that no count passes the cursor
pub record Halfway (s : List ℕ) (c : Cursor) (r : Report) : Type 0 where
  pub whole : counted r (left s c) ≡ counted nothing (lines s)
  pub balanced : Balanced r
  pub sum : r.totals.sum ≤ most64
  pub lines : all_lines r.totals ≤ c.at
  pub inside : c.at ≤ length s

pub begins : (s : List ℕ) → Halfway s fresh nothing
begins s = record { whole = refl; balanced = nothing_balanced; sum = omega arith; lines = omega arith; inside = omega arith }

module _ {s : List ℕ} {c next : Cursor} {place : Place} {r : Report} (half : Halfway s c r) (h : Hands s c place next) (v : Verdict)
    (is : v ≡ verdict (text_at place s)) where
  counts_on : counted (add r v) (left s next) ≡ counted nothing (lines s)
  counts_on = rw is (rw h.first at half.whole)

  -- the line that a step hands out, counted
  pub goes_on : r.totals.sum + length_of v ≤ most64 → Halfway s next (add r v)
  goes_on fits =
      record {
        whole = counts_on;
        balanced = balanced_add r v half.balanced;
        sum = fits;
        lines =
            omega (arith, half.lines, h.start, h.forward, h.behind, all_lines_add r.totals v (rw is (sound (text_at place s))));
        inside = h.within;
      }

  -- lengths only add: where the sum passes before the last line, it passes
  pub passes : most64 < r.totals.sum + length_of v → morning s ≡ Err refusal.Sum
  passes over =
      passed s (omega (arith, ap (λ (x : Report). x.totals.sum) counts_on, sum_counted (add r v) (left s next), (adds_up s).exact))

-- no line is left
pub ends : {s : List ℕ} {c : Cursor} {r : Report} → Halfway s c r → left s c ≡ [] → morning s ≡ Ok r
unfolding morning
ends {s} {c} {r} half e = let w : r ≡ counted nothing (lines s) = rw e at half.whole in rw (← w, le-ltb most64 r.totals.sum half.sum)
