-- What a report's numbers come to: RULES 17.6. Assumes nothing: these are definitions.
use Rattle.std.specs.Prelude.{ℕ, ◌+◌, ◌≤◌, ◌≡◌, length}
use mathlib.Core.List.{List, map, sum}
use Rattle.read_lines.specs.Lines.{lines}
use Rattle.read_verdict.specs.Verdict.{verdict}
use Rattle.read_report.specs.declared.totals.Totals.{Totals}
use Rattle.read_report.specs.declared.totals.Report.{Report}
use Rattle.read_report.specs.Report.{length_of}

-- numbers added up
abbrev pub total : List ℕ → ℕ
total l = sum ◌+◌ 0 l

-- the lines of each kind, and the refused ones
abbrev pub all_lines : Totals → ℕ
all_lines t =
    t.records + t.directives + t.comments
    + (t.refused_too_long + t.refused_columns + t.refused_position + t.refused_score + t.refused_strand + t.refused_phase + t.refused_attribute)

-- the lengths of a text's records, added up from its lines
abbrev pub lengths_of : List ℕ → ℕ
lengths_of s = total (map (λ line. length_of (verdict line)) (lines s))

-- "the sixty-four and the reversed add up to the records"
pub record Balanced (r : Report) : Type 0 where
  pub sixty_four : length r.lengths ≡ 64
  pub lengths : total r.lengths + r.totals.reversed ≡ r.totals.records

-- of a text's lines, counted
pub record AddsUp (s : List ℕ) (r : Report) : Type 0 where
  -- "add up to the number of lines handed out, counted from the text itself"
  pub handed_out : all_lines r.totals ≡ length (lines s)
  pub balanced : Balanced r
  -- "the exact sum of lengths"
  pub exact : r.totals.sum ≡ lengths_of s
  -- no count can wrap: there are no more lines than bytes
  pub few : all_lines r.totals ≤ length s
