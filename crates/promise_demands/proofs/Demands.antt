-- The demands, each proved by what it cites; specs/Demand.antt says them. Assumes nothing.
use Prim.Native.Nat.{ℕ}
use native.Mathlib.Omega.{arith}
use mathlib.Core.Path.{◌≡◌, refl}
use mathlib.Core.List.{List, [], ◌++◌, map-append}
use lib.ListN.{length}
use Rattle.base_lists.specs.Bytes.{Every}
use Rattle.write_decimals.specs.Decimal.{decimal}
use Rattle.percent_sets.specs.declared.Set.TheVariants as set
use Rattle.percent_coding.specs.Percent.{decoded, encoded}
use Rattle.percent_sets.specs.Sets.{escapes}
use Rattle.percent_encode.specs.Encode.{encode_reasons}
use Rattle.read_lines.specs.Step.{fresh}
use Rattle.read_lines.proofs.StepLaws.{lines_met}
use Rattle.read_parts.proofs.Sameness.{shown_fits, sameness, one_call}
use Rattle.percent_sets.proofs.SetLaws.{coder_of, bars_signs}
use Rattle.read_columns.specs.Columns.{column_text}
use Rattle.read_columns.proofs.ColumnsLaws.{row_record, row_text}
use Rattle.read_fields.specs.Fields.{text_reasons}
use Rattle.sheet_form.proofs.CursorLaws.{count_refused, section_refused}
use Rattle.read_values.proofs.ValueLaws.{values_met}
use Rattle.read_attributes.proofs.WalkLaws.{fields_met}
use Rattle.read_attributes.proofs.WrittenLaws.{walk_column}
use Rattle.write_comment.proofs.RoundTrip.{comment_back}
use Rattle.write_directive.proofs.RoundTrip.{directive_back, typed_back}
use Rattle.promise_calls.proofs.Calls.{calls}
use Rattle.promise_calls.proofs.Blocks.{blocks}
use Rattle.promise_calls.proofs.InC.{in_c}
use Rattle.promise_calls.proofs.NoField.{no_field}
use Rattle.promise_demands.specs.Item.{Item, reasons_of, line_of, Accepted, ReadsBack}
use Rattle.promise_survival.specs.Survivors.{lines_of, text_of, before, after}
use Rattle.promise_survival.specs.Survival.{ByLines}
use Rattle.read_verdict.proofs.VerdictLaws.{sound as verdict_sound}
use Rattle.read_report.proofs.AddLaws.{power_is}
use Rattle.read_report.proofs.SumLaws.{adds_up, passed, not_passed}
use Rattle.promise_demands.specs.Demand.{Demand1, Demand2, Demand3, Counts, gff3, HandsOut, whole_text, in_parts}
use Rattle.promise_demands.proofs.AnswerLaws.{writes, unfold_answers, take_part_answers, end_parts_answers, no_fields}
use Rattle.promise_demands.proofs.ItemLaws.{sound, done_accepted, again_accepted}
use Rattle.promise_survival.proofs.Stretch.{survival}

-- every call has one answer, and a refused one changes nothing
pub demand1 : Demand1
demand1 =
    record {
      calls = calls;
      blocks = blocks;
      in_c = in_c;
      write = λ i. writes (reasons_of i) (line_of i);
      encode = λ set s. writes (encode_reasons s) (encoded (escapes set) s);
      decode = λ s. writes [] (decoded s);
      write_decimal = λ n. writes [] (decimal n);
      text = λ c line b. writes (text_reasons line b) (decoded (column_text c line));
      count = count_refused;
      section = section_refused;
      unfolds = unfold_answers;
      take_part = take_part_answers;
      end_parts = end_parts_answers;
      no_field = no_fields;
      no_field_in_c = no_field;
    }

-- the definitions are what the documents say
pub demand2 : Demand2
demand2 =
    record {
      coded = coder_of;
      cut = row_record;
      columns = row_text;
      walked = walk_column (coder_of set.Attribute) bars_signs.0 bars_signs.1 bars_signs.2;
      fields_met = fields_met;
      values_met = values_met;
      directive = directive_back;
      typed = typed_back;
      comment = comment_back;
    }

-- `next_line` hands out the lines of a text
by_lines : ByLines whole_text
by_lines = record { in_a_row = λ ls ms. refl; all_lines = λ s n h. lines_met n s fresh (omega arith) }

-- and calls in parts tell them
by_lines_in_parts : ByLines in_parts
by_lines_in_parts =
    record {
      in_a_row = map-append _;
      all_lines = λ s d room lengths all run. (sameness room s).same run;
    }

-- what was written reads back where nothing touched it, whatever became of one stretch of the text
pub demand3 : Demand3
demand3 =
    record {
      survival = survival gff3 whole_text sound by_lines;
      survival_in_parts = survival gff3 in_parts sound by_lines_in_parts;
      fits = shown_fits;
      same_in_parts = λ d room s. sameness room s;
      one_call = λ s d d' r ok. one_call ok;
      written = done_accepted;
      again = again_accepted;
    }

-- the numbers of a report come to what they should
pub counts : Counts
counts =
    record {
      verdicts = verdict_sound;
      powers = power_is;
      adds_up = adds_up;
      passed = passed;
      stays = not_passed;
    }

-- ── demand 3 spelled out ──────────────────────────────────────────────────────────────────────

-- of GFF3 items and `next_line`, without the words of promise_survival
pub stretch_replaced : (items : List Item) → Every Accepted items → (a x b y : List ℕ) → text_of line_of items ≡ a ++ (x ++ b)
    → (damaged : List (List ℕ))
    × HandsOut (a ++ (y ++ b))
    (lines_of line_of (before line_of (length a) items) ++ (damaged ++ lines_of line_of (after line_of (length b) items)))
    × Every (λ i. ReadsBack i (line_of i)) (before line_of (length a) items)
    × Every (λ i. ReadsBack i (line_of i)) (after line_of (length b) items)
stretch_replaced items h a x b y cut =
    let s = demand3.survival.survive items h a x b y cut in (s.damaged, s.read, s.first_back, s.last_back)

pub nothing_replaced : (items : List Item) → Every Accepted items
    → HandsOut (text_of line_of items) (lines_of line_of items) × Every (λ i. ReadsBack i (line_of i)) items
nothing_replaced = demand3.survival.whole
