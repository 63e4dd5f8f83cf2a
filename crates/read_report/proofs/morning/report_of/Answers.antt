-- `report_of`: each turn counts the line that a step hands out. Assumes nothing.
use Rattle.std.proofs.lemmas.Grind.{common_steps}
use Prim.Native.Nat.{ℕ, ◌<◌}
use native.Mathlib.Omega.{arith}
use borrow.Author.Tests.{lt-ltb, le-ltb}
use mathlib.Core.Path.{◌≡◌, sym, ap, ap₂, ◌∙◌, subst}
use mathlib.Core.Logic.{⊎_elim}
use mathlib.Core.List.{List}
use lib.ListN.{length, get_or}
use Rattle.base_scan.specs.Part.{text_at}
use Rattle.read_lines.proofs.StepLaws.{Hands, meets}
use Rattle.read_verdict.specs.Verdict.{verdict, Sound}
use Rattle.read_verdict.proofs.VerdictLaws.{sound}
use Rattle.read_report.specs.declared.totals.Totals.{Totals}
use Rattle.read_report.specs.declared.totals.Report.{Report}
use Rattle.read_report.specs.Report.{length_of, add_length, no_totals}
use Rattle.read_report.proofs.AddLaws.{one_of, lengths_by}
use Rattle.read_report.proofs.SumLaws.{Halfway, begins, goes_on, passes, ends}
use Rattle.read_report.proofs.morning.report_of.Goals as goal
use Rattle.read_report.proofs.morning.report_of.Goals.{After-power_of, After-verdict_of-verdict, Joined-length-gt0}

abbrev of_both : List ℕ → Totals → Report
of_both lengths totals = record { lengths = lengths; totals = totals }

-- the line that the step hands out
hands : (c : After-verdict_of-verdict)
    → Hands c.args.text.now c.loop-place.cursor c.in-Some.place c.in-Some.next
hands c = meets _ _ c.next_line.ensures c.in-Some.is

said : (c : After-verdict_of-verdict)
    → c.verdict_of-verdict.result ≡ verdict (text_at c.in-Some.place c.args.text.now)
said c = c.verdict_of-verdict.ensures ∙ ap verdict c.text.ensures

is-sound : (c : After-verdict_of-verdict) → Sound c.verdict_of-verdict.result
is-sound c = rw (said c) (sound _)

-- ── the line counted ──────────────────────────────────────────────────────────────────────────
-- the sixty-four have room: none of them passes the cursor
room : (c : After-power_of)
    → get_or c.loop-place.lengths c.power_of.result 0 < length c.args.text.now
room c =
    let hands : Hands c.args.text.now c.loop-place.cursor c.in-Some.place c.in-Some.next = meets _ _ c.next_line.ensures c.in-Some.is in
    let half = c.loop-place.invariant in
    let h = hands in
    omega (arith, one_of c.loop-place.lengths c.power_of.result, c.loop-place.invariant.balanced.lengths)

-- the sixty-four behind it
raised_by : (c : Joined-length-gt0)
    → c.if-length-gt0.lengths ≡ add_length c.loop-place.lengths c.verdict_of-verdict.result
raised_by c =
    let by = lengths_by c.loop-place.lengths c.verdict_of-verdict.result in
    let is = c.length_of-length.ensures in
    let n = length_of c.verdict_of-verdict.result in
    ⊎_elim (λ w. w.lengths-is ∙ rw (w.power_of.ensures.0, is) (sym (rw (lt-ltb 0 n (omega (arith, w.if-length-gt0.true, is))) at by)))
    (λ w. w.lengths-is ∙ sym (rw (le-ltb 0 n (omega (arith, w.if-length-gt0.false, is))) at by))
    c.if-length-gt0.branch-raw

-- ── the needs ─────────────────────────────────────────────────────────────────────────────────
pub loop-place-init : goal.loop-place-init
loop-place-init c =
    let none : c.default-totals.result ≡ no_totals = grind (arith, common_steps, c.default-totals.ensures) in
    rw (none, c.new-cursor.ensures) (begins _)

pub length_of-length-requires : goal.length_of-length-requires
length_of-length-requires c = is-sound (goal.at.length_of-length-requires c).After-verdict_of-verdict

pub overflow_add-lengths : goal.overflow_add-lengths
overflow_add-lengths c = omega (arith, room (goal.at.overflow_add-lengths c).After-power_of)

pub add_totals-totals-requires : goal.add_totals-totals-requires
add_totals-totals-requires c =
    let half = c.loop-place.invariant in
    let h = hands (goal.at.add_totals-totals-requires c).After-verdict_of-verdict in
    record {
      lines = omega (arith, c.loop-place.invariant.lines, c.well_formed);
      reversed = omega (arith, c.loop-place.invariant.balanced.lengths);
      sum = omega (arith, c.loop-place.invariant.sum, c.length_of-length.ensures);
      sound = is-sound (goal.at.add_totals-totals-requires c).After-verdict_of-verdict;
    }

pub loop-place-smaller : goal.loop-place-smaller
loop-place-smaller c = let h = hands (goal.at.loop-place-smaller c).After-verdict_of-verdict in omega arith

pub loop-place-preserved : goal.loop-place-preserved
loop-place-preserved c =
    let half = c.loop-place.invariant in
    subst (Halfway c.args.text.now c.in-Some.next)
    (sym (ap₂ of_both (raised_by (goal.at.loop-place-preserved c).Joined-length-gt0) c.add_totals-totals.ensures))
    (goes_on half (hands (goal.at.loop-place-preserved c).After-verdict_of-verdict) c.verdict_of-verdict.result (said (goal.at.loop-place-preserved c).After-verdict_of-verdict) (omega (arith, c.loop-place.invariant.sum, c.length_of-length.ensures)))

pub returns-then-totals-length : goal.returns-then-totals-length
returns-then-totals-length c =
    let line = (goal.at.returns-then-totals-length c).After-verdict_of-verdict in
    sym (passes c.loop-place.invariant (hands line) c.verdict_of-verdict.result (said line) (omega (arith, c.length_of-length.ensures)))

pub returns : goal.returns
returns c = sym (ends c.loop-place.invariant (meets _ _ c.next_line.ensures c.in_default.is))
