-- The report of a text as C has it (RULES 16, 17). Assumes nothing: these are definitions.
use Rattle.std.specs.Prelude.{ℕ, Result, Ok, Err}
use Rattle.base_refusals.specs.declared.Refusal.{Refusal}
use Rattle.base_refusals.specs.Refusal.{number}
use Rattle.read_report.specs.declared.totals.Report.{Report}
use Rattle.read_report.specs.Report.{nothing}
use Rattle.c_report.specs.declared.Gff3Morning.{Gff3Morning}

-- a report, and the number of the refusal beside it, or 0
abbrev pub c_counts : ℕ → Report → Gff3Morning
c_counts refused r =
    let t = r.totals in
    record {
      refused = refused;
      records = t.records;
      directives = t.directives;
      comments = t.comments;
      reversed = t.reversed;
      sum = t.sum;
      refused_too_long = t.refused_too_long;
      refused_columns = t.refused_columns;
      refused_position = t.refused_position;
      refused_score = t.refused_score;
      refused_strand = t.refused_strand;
      refused_phase = t.refused_phase;
      refused_attribute = t.refused_attribute;
      lengths = r.lengths;
    }

-- where it is refused, every count is 0
abbrev pub c_morning : Result Report Refusal → Gff3Morning
c_morning (Ok r) = c_counts 0 r
c_morning (Err r) = c_counts (number r) nothing
