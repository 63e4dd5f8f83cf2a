-- The morning's report of a text: RULES 17. It is a fold over the lines of the text, in numbers without a limit; what passes 64 bits is
-- refused at the end. Assumes nothing: these are definitions.
use Rattle.std.specs.Prelude.{ℕ, zero, suc, ◌+◌, ◌-◌, ◌^◌, Bool, true, false, cond, not, Result, Ok, Err, eqb, ltb, leb, get_or, set, replicate}
use mathlib.Core.List.{List, foldl}
use Rattle.base_lists.specs.Bit.{bit}
use Rattle.base_refusals.specs.declared.Refusal.{Refusal}
use Rattle.base_refusals.specs.declared.Refusal.TheVariants as refusal
use Rattle.base_refusals.specs.Refusal.{number}
use Rattle.read_numbers.specs.Number.{most64}
use Rattle.read_judge.specs.declared.judging.Numbers.{Numbers}
use Rattle.read_lines.specs.Lines.{lines}
use Rattle.read_verdict.specs.declared.Verdict.{Verdict}
use Rattle.read_verdict.specs.declared.Verdict.TheVariants.{Directive, Comment, Record, Refused}
use Rattle.read_verdict.specs.Verdict.{verdict}
use Rattle.read_report.specs.declared.totals.Totals.{Totals}
use Rattle.read_report.specs.declared.totals.Report.{Report}

-- ── lengths ──

-- "start above end"
abbrev pub above : Numbers → Bool
above n = ltb n.end n.start

-- "how many of those lengths lie in each power of two": a length lies in power i where it is at least 2^i and below 2^(i + 1). The greatest
-- i, of those up to k, with 2^i at most n
unfoldable pub power_to : ℕ → ℕ → ℕ
power_to zero n = zero
power_to (suc k) n = cond (leb (2 ^ suc k) n) (suc k) (power_to k n)

abbrev pub power : ℕ → ℕ
power n = power_to 63 n

-- ── what a line is counted as ──

abbrev pub is_record : Verdict → Bool
is_record Directive = false
is_record Comment = false
is_record (Record n) = true
is_record (Refused r) = false

abbrev pub is_directive : Verdict → Bool
is_directive Directive = true
is_directive Comment = false
is_directive (Record n) = false
is_directive (Refused r) = false

abbrev pub is_comment : Verdict → Bool
is_comment Directive = false
is_comment Comment = true
is_comment (Record n) = false
is_comment (Refused r) = false

-- a record, reversed or not
abbrev pub is_reversed : Verdict → Bool
is_reversed Directive = false
is_reversed Comment = false
is_reversed (Record n) = above n
is_reversed (Refused r) = false

abbrev pub is_forward : Verdict → Bool
is_forward Directive = false
is_forward Comment = false
is_forward (Record n) = not (above n)
is_forward (Refused r) = false

-- by this number
abbrev pub is_refused : ℕ → Verdict → Bool
is_refused n Directive = false
is_refused n Comment = false
is_refused n (Record numbers) = false
is_refused n (Refused r) = eqb (number r) n

-- "end minus start plus 1", of a record that is not reversed
abbrev pub length_of : Verdict → ℕ
length_of Directive = 0
length_of Comment = 0
length_of (Record n) = cond (above n) 0 (n.end - n.start + 1)
length_of (Refused r) = 0

-- ── the report ──

abbrev pub no_totals : Totals
no_totals =
    record {
      records = 0;
      directives = 0;
      comments = 0;
      reversed = 0;
      sum = 0;
      refused_too_long = 0;
      refused_columns = 0;
      refused_position = 0;
      refused_score = 0;
      refused_strand = 0;
      refused_phase = 0;
      refused_attribute = 0;
    }

abbrev pub nothing : Report
nothing = record { lengths = replicate 64 0; totals = no_totals }

-- one line more, in the totals
abbrev pub add_totals : Totals → Verdict → Totals
add_totals t v =
    record {
      records = t.records + bit (is_record v);
      directives = t.directives + bit (is_directive v);
      comments = t.comments + bit (is_comment v);
      reversed = t.reversed + bit (is_reversed v);
      sum = t.sum + length_of v;
      refused_too_long = t.refused_too_long + bit (is_refused 24 v);
      refused_columns = t.refused_columns + bit (is_refused 1 v);
      refused_position = t.refused_position + bit (is_refused 2 v);
      refused_score = t.refused_score + bit (is_refused 17 v);
      refused_strand = t.refused_strand + bit (is_refused 3 v);
      refused_phase = t.refused_phase + bit (is_refused 4 v);
      refused_attribute = t.refused_attribute + bit (is_refused 5 v);
    }

-- one more at a place of a list
abbrev pub raised : ℕ → List ℕ → List ℕ
raised k l = set l k (get_or l k 0 + 1)

-- one line more, in the sixty-four
abbrev pub add_length : List ℕ → Verdict → List ℕ
add_length l v = cond (is_forward v) (raised (power (length_of v)) l) l

-- one line more
abbrev pub add : Report → Verdict → Report
add r v = record { lengths = add_length r.lengths v; totals = add_totals r.totals v }

-- some lines more
abbrev pub counted : Report → List (List ℕ) → Report
counted r ls = foldl (λ r line. add r (verdict line)) r ls

-- ── the answer ──

-- "26, the length sum passes 18446744073709551615; the whole report is refused"
abbrev pub unless_passed : Report → Result Report Refusal
unless_passed r = cond (ltb most64 r.totals.sum) (Err refusal.Sum) (Ok r)

unfoldable pub morning : List ℕ → Result Report Refusal
morning s = unless_passed (counted nothing (lines s))
