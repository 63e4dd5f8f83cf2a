-- Samples, computed: RULES 17.5, and the report of a text of three lines. Assumes nothing.
use mathlib.Core.Path.{◌≡◌, refl}
use lib.ListN.{replicate}
use Rattle.std.specs.Prelude.{Ok}
use Rattle.base_lists.specs.Bit.{bit}
use Rattle.base_lists.specs.Bytes.{ascii}
use Rattle.base_scan.specs.Find.{index, seek}
use Rattle.base_buffer.specs.Answer.{unless}
use Rattle.read_lines.specs.Lines.{chomped, unless_blank, lines_after}
use Rattle.read_columns.specs.Columns.{past_tab, ends}
use Rattle.read_kind.specs.Kind.{kind}
use Rattle.read_verdict.specs.Verdict.{verdict}
use Rattle.read_report.specs.Report.{power_to, power, morning}

powers : (power 1 ≡ 0)
    × (power 2 ≡ 1)
    × (power 3 ≡ 1)
    × (power 4 ≡ 2)
    × (power 7 ≡ 2)
    × (power 9223372036854775807 ≡ 62)
    × (power 9223372036854775808 ≡ 63)
    × (power 18446744073709551615 ≡ 63)
unfolding power_to
powers = (refl, refl, refl, refl, refl, refl, refl, refl)

-- a directive, a blank line, a comment, and a line without tabs
counted : morning (ascii "##gff-version x\n\n# a\r\nb")
    ≡ Ok (record {
      lengths = replicate 64 0;
      totals =
          record {
            records = 0;
            directives = 1;
            comments = 1;
            reversed = 0;
            sum = 0;
            refused_too_long = 0;
            refused_columns = 1;
            refused_position = 0;
            refused_score = 0;
            refused_strand = 0;
            refused_phase = 0;
            refused_attribute = 0;
          };
    })
unfolding bit index seek unless chomped unless_blank lines_after past_tab ends kind verdict morning
counted = refl
