-- What the library as a whole is asked for, in words and in symbols; proofs/Demands.antt proves it. How the symbols read: `(x : A) → B` or
-- `{x : A} → B` for every x of the kind A, B; `(x : A) × B` there is an x of the kind A such that B; `A × B` both; `≡` is; `≢` is not; `∷`
-- followed by more; `++` followed by a text or list; `Every P l` P holds of each one in l; `ℕ` a number, a byte among them. Assumes nothing:
-- these are definitions.
use Rattle.std.specs.Prelude.{ℕ, suc, ◌*◌, ◌-◌, ◌^◌, ◌<◌, ◌≤◌, ◌≡◌, ◌≢◌, true, false, Option, Some, None, Result, Ok, Err, cond, ltb, length, drop, get_or}
use mathlib.Core.List.{List, [], ◌∷◌, ◌++◌, map}
use Rattle.std.proofs.Math.Option.{some}
use Rattle.base_lists.specs.Bytes.{Every, Bytes, Lacks, comma, tab}
use Rattle.base_buffer.specs.declared.WriteError.{WriteError}
use Rattle.base_buffer.specs.Answer.{Reason, refusal_of, number_or, number, Wrote}
use Rattle.write_decimals.specs.Decimal.{decimal}
use Rattle.percent_sets.specs.declared.Set.{Set}
use Rattle.percent_sets.specs.declared.Set.TheVariants as set
use Rattle.percent_coding.specs.Percent.{decoded, encoded}
use Rattle.percent_coder.specs.Coder.{Coder}
use Rattle.percent_sets.specs.Sets.{escapes}
use Rattle.percent_sets.specs.Bars.{bars}
use Rattle.percent_encode.specs.Encode.{encode_reasons}
use Rattle.read_lines.specs.Step.{fresh, line_steps}
use Rattle.base_refusals.specs.declared.Refusal.{Refusal}
use Rattle.base_refusals.specs.declared.Refusal.TheVariants as refusal
use Rattle.read_parts.specs.declared.state.State.{State}
use Rattle.read_parts.specs.declared.Part.{Part}
use Rattle.read_parts.specs.State as parts
use Rattle.read_parts.specs.State.{hold_length}
use Rattle.read_parts.specs.Calls.{part_refusal, refuses, take_reasons, TakesPart, end_reasons, EndsParts}
use Rattle.read_parts.specs.Run as run
use Rattle.read_parts.specs.Run.{Event, shown, Run}
use Rattle.read_parts.specs.Sameness.{Sameness, OneCall}
use Rattle.read_kind.specs.Reading.{ReadsComment, ReadsDirective}
use Rattle.read_columns.specs.declared.bounds.Bounds.{Bounds}
use Rattle.read_columns.specs.declared.column.Column.{Column}
use Rattle.read_columns.specs.Columns.{has_columns, column_text, row_of, tabs_before}
use Rattle.read_fields.specs.Fields.{text_reasons}
use Rattle.read_attributes.specs.Attributes.{Attribute, walk_from, walk, attributes}
use Rattle.read_values.specs.Pieces.{pieces}
use Rattle.read_attributes.specs.Step as column9
use Rattle.read_values.specs.Step as value
use Rattle.read_attributes.specs.Written.{Writable, column}
use Rattle.write_directive.specs.declared.directive.Value.{Value}
use Rattle.write_comment.specs.Comment.{comment_reasons, comment_line}
use Rattle.write_directive.specs.Directive.{directive_reasons, directive_line}
use Rattle.write_directive.specs.Reading.{value_text, Sized, Back}
use Rattle.sheet_form.specs.Reader.{form_refusal, read_count}
use Rattle.sheet_form.specs.Cursor.{count_refusal, count_at, section_refusal, section_at}
use Rattle.sheet_form.specs.Sheet as form
use Rattle.sheet_form.specs.Sheet.{sheet_of}
use Rattle.read_judge.specs.declared.judging.Numbers.{Numbers}
use Rattle.read_judge.specs.Judge.{unfolded, unfold_reasons}
use Rattle.read_record.specs.Unfold.{as_written, Unfolds}
use Rattle.read_lines.specs.Lines.{lines}
use Rattle.read_numbers.specs.Number.{most64}
use Rattle.read_verdict.specs.Verdict.{verdict, Sound}
use Rattle.read_report.specs.Report.{power, nothing, counted, morning}
use Rattle.read_report.specs.Sums.{lengths_of, AddsUp}
use Rattle.promise_roundtrip.specs.Again.{reasons_left}
use Rattle.promise_calls.specs.Calls.{Calls}
use Rattle.promise_calls.specs.Blocks.{Blocks}
use Rattle.promise_calls.specs.InC.{InC}
use Rattle.promise_calls.specs.NoField.{NoField}
use Rattle.promise_demands.specs.Item.{Item, line_of, reasons_of, Typed, Accepted, Accepts, ReadsBack, item_again}
use Rattle.promise_survival.specs.Survival.{Writing, Reading, Survival}

-- ── demand 1 ──────────────────────────────────────────────────────────────────────────────────

-- RULES 15.1: "Every call takes any bytes and numbers and ends, with an answer or with the refusal that these rules name for that input. No
-- caller has to check first. A refused call changes no byte of its output buffer and hands out no field."

-- The crate promise_calls says of each public function's own code that it takes any arguments and ends, which answer it gives, and that it
-- gives no other. Here is what is common to all calls that are lent a buffer. P d d' r is the promise of such a call: that it may answer r,
-- where its buffer held d before and holds d' after. Whatever d is, there is an answer, and one only. Its number is that of the first
-- reason that holds, no room for so many bytes being the last reason, and 0 where none holds. Where it is not 0, the buffer holds what it
-- held.
pub record Answers {A : Type 0} (number_of : A → ℕ) (reasons : List Reason) (bytes : ℕ) (P : List ℕ → List ℕ → A → Type 0) : Type 0 where
  pub some_answer : (d : List ℕ) → (d' : List ℕ) × (r : A) × P d d' r
  pub one_answer : {d d₁ d₂ : List ℕ} {r₁ r₂ : A} → P d d₁ r₁ → P d d₂ r₂ → (r₁ ≡ r₂) × (d₁ ≡ d₂)
  pub first_reason : {d d' : List ℕ} {r : A} → P d d' r → number_of r ≡ number_or (refusal_of reasons) (cond (ltb (length d) bytes) 22 0)
  pub unchanged : {d d' : List ℕ} {r : A} → P d d' r → number_of r ≢ 0 → d' ≡ d

-- so of a function that writes a text
abbrev pub Writes : List Reason → List ℕ → Type 0
Writes reasons text = Answers number reasons (length text) (Wrote reasons text)

-- so of a call in parts, whose buffer is the hold: its number is that of the first reason that holds, 34 being the first of all. With 34 the
-- hold holds what it held; with 25 it need not, since it is no output
pub record AnswersPart (reasons : ℕ → List Reason) (P : List ℕ → List ℕ → Result Part Refusal → Type 0) : Type 0 where
  pub some_answer : (d : List ℕ) → (d' : List ℕ) × (r : Result Part Refusal) × P d d' r
  pub one_answer : {d d₁ d₂ : List ℕ} {r₁ r₂ : Result Part Refusal} → P d d₁ r₁ → P d d₂ r₂ → (r₁ ≡ r₂) × (d₁ ≡ d₂)
  pub first_reason : {d d' : List ℕ} {r : Result Part Refusal} → P d d' r → part_refusal r ≡ number_or (refusal_of (reasons (length d))) 0
  pub unchanged : {d d' : List ℕ} {r : Result Part Refusal} → P d d' r → part_refusal r ≡ 34 → d' ≡ d

-- the fields that an answer of `unfold` hands out
unfoldable pub fields : Result (Numbers × ℕ) WriteError → Option Numbers
fields (Ok (numbers, n)) = Some numbers
fields (Err e) = None

pub record Demand1 : Type 2 where
  -- every public function takes any arguments, and gives one answer (RULES 15.4), by the definitions that the demands are stated in
  pub calls : Calls
  pub blocks : Blocks
  pub in_c : InC
  -- `write_record`, `write_directive`, `write_comment`
  pub write : (i : Item) → Writes (reasons_of i) (line_of i)
  -- `encode`, `decode`, `write_decimal`
  pub encode : (set : Set) (s : List ℕ) → Writes (encode_reasons s) (encoded (escapes set) s)
  pub decode : (s : List ℕ) → Writes [] (decoded s)
  pub write_decimal : (n : ℕ) → Writes [] (decimal n)
  -- `reference_sequence_name`, `source`, `ty`
  pub text : (c : Column) (line : List ℕ) (b : Bounds) → Writes (text_reasons line b) (decoded (column_text c line))
  -- `count_at`, `section_at`: 23 exactly where what stands from the cursor on is not of the form
  pub count : (s : List ℕ) (at : ℕ) → count_refusal (count_at s at) ≡ form_refusal (read_count (drop at s))
  pub section : (s : List ℕ) (at : ℕ) → section_refusal (section_at s at) ≡ form_refusal (form.section (drop at s))
  -- `unfold`, which answers as a writer of the sheet, with the numbers beside it
  pub unfolds : (line : List ℕ)
      → Answers (λ r. number (as_written r)) (unfold_reasons line) (length (sheet_of (unfolded line))) (Unfolds line)
  -- `take_part`, `end_parts`
  pub take_part : (s : State) (p : List ℕ) → AnswersPart (take_reasons s p) (TakesPart s p)
  pub end_parts : (s : State) → AnswersPart (end_reasons s) (EndsParts s)
  -- a refused answer holds no field; nor does that of a field reader, whose `Err` holds its reason alone; nor do the structs of C
  pub no_field : (r : Result (Numbers × ℕ) WriteError) → number (as_written r) ≢ 0 → fields r ≡ None
  pub no_field_in_c : NoField

-- ── demand 2 ──────────────────────────────────────────────────────────────────────────────────

-- RULES 15.2: "On the domain of these rules it equals the Rust, shown by runs against it. Columns, percent coding, attributes and directives
-- are proved against definitions written from the GFF3 specification 1.26 and RFC 3986."

-- The runs are made by tools/compare. That a function answers its definition is said above, by `Demand1`. Here are the laws that tie the
-- definitions to the two documents; specs/Samples.antt has the samples of RULES 14.
pub record Demand2 : Type 0 where
  -- RFC 3986, section 2: whichever set says what is escaped, decoding an encoded text gives it back; no byte of the set comes out but the
  -- percent sign and hex digits; and a byte makes at most three
  pub coded : (set : Set) → Coder (bars set) (encoded (escapes set))
  -- GFF3, nine columns, split at tabs: eight columns without a tab, a tab behind each, and any rest are cut at these tabs, and read back
  pub cut : (row : List (List ℕ)) (rest : List ℕ) → length row ≡ 8 → Every (Lacks tab) row → has_columns (row_of row rest) ≡ true
  pub columns : (row : List (List ℕ)) (rest : List ℕ) → length row ≡ 8 → Every (Lacks tab) row → (c : Column)
      → column_text c (row_of row rest) ≡ get_or row (tabs_before c) rest
  -- GFF3, column 9: tags and values escaped, `=` behind a tag, `,` between values, `;` between attributes; the walk gives them back
  pub walked : (l : List Attribute) → Every Writable l → attributes (walk (column (encoded (escapes set.Attribute)) l)) ≡ some l
  -- `next_field`, called from a cursor on, meets that walk, and `next_value` hands out a value's pieces between commas
  pub fields_met : (n : ℕ) (s : List ℕ) (at : ℕ) → length s - at ≤ 2 * n → column9.field_steps n s at ≡ walk_from s at
  pub values_met : (n : ℕ) (s : List ℕ) → length s < n → value.value_steps n s value.fresh ≡ pieces comma s
  -- GFF3, directives and comments: what is written as one reads back, a directive's parts each, a typed value from its own reader
  pub directive : (key : List ℕ) (value : Value) (first second : List ℕ) → refusal_of (directive_reasons key value first second) ≡ None
      → ReadsDirective (directive_line key value first second) key (value_text value first second)
  pub typed : (key : List ℕ) (value : Value) (first second : List ℕ) → refusal_of (directive_reasons key value first second) ≡ None
      → Sized value → Back value first second
  pub comment : (text : List ℕ) → refusal_of (comment_reasons text) ≡ None → ReadsComment (comment_line text) text

-- ── demand 3 ──────────────────────────────────────────────────────────────────────────────────

-- RULES 15.3: "Take any list of records, directives and comments that the writer accepted, each line ended by a line feed. Replace any one
-- stretch of that text by other bytes, of any length. Each item whose line, line feed included, lies before the stretch reads back exactly,
-- given room, first and in order; so does each one that lies after it together with the line feed before it, last and in order. With nothing
-- replaced the whole list reads back. Where the text comes in parts, so does every item whose line has at most 65,536 bytes, among the lines
-- handed out; a longer line that the damage makes is reported, and belongs to the stretch."

-- The crate promise_survival says this in symbols, for items of any kind and any way of reading. Here is for which.

-- records, directives and comments, as their writers write them
abbrev pub gff3 : Writing
gff3 = record { Item = Item; line = line_of; Accepted = Accepted; ReadsBack = ReadsBack }

-- `next_line`, called from a new cursor on until it is done, hands out exactly these lines of the text s, in this order; as many calls as s
-- has bytes, or more, are enough
abbrev pub HandsOut : List ℕ → List (List ℕ) → Type 0
HandsOut s lines = (n : ℕ) → length s ≤ n → line_steps n s fresh ≡ lines

-- so a whole text is read, and what is told of lines is these lines
abbrev pub whole_text : Reading
whole_text = record { Event = List ℕ; told = λ lines. lines; Reads = HandsOut }

-- The calls `take_part` with parts of s, however s is cut, from a fresh state on, and then `end_parts`, tell exactly these events: lines that
-- are handed out, and 25 for one that is too long. So over every hold of 65,536 bytes, whatever it held before.
abbrev pub TellsInParts : List ℕ → List Event → Type 0
TellsInParts s events =
    (d : List ℕ) → length d ≡ hold_length → (lengths : List ℕ) (all : List Event) → Run lengths parts.fresh d s all → all ≡ events

-- so a text is read that comes in parts
abbrev pub in_parts : Reading
in_parts = record { Event = Event; told = map shown; Reads = TellsInParts }

-- A line that unfolds is written again, from the sheet and the numbers that it unfolds to: RULES 9.5.
pub record Again (line : List ℕ) : Type 0 where
  -- the writer refuses them by 24, the sheet is longer than it takes, or by 18, a `CDS` without a phase, and for no other reason
  pub refused : refusal_of (reasons_of (item_again line)) ≡ refusal_of (reasons_left line)
  -- where neither holds it accepts them, and they read back from what it writes
  pub accepted : refusal_of (reasons_left line) ≡ None → Accepted (item_again line) × ReadsBack (item_again line) (line_of (item_again line))

pub record Demand3 : Type 0 where
  pub survival : Survival gff3 whole_text
  -- the same where the text comes in parts: of an item whose line has at most 65,536 bytes its line is handed out
  pub survival_in_parts : Survival gff3 in_parts
  pub fits : (l : List ℕ) → length l ≤ hold_length → shown l ≡ run.line l
  -- since calls in a row tell the lines of the whole text, and 25 for each that does not fit
  pub same_in_parts : (d : List ℕ) → length d ≡ hold_length → (s : List ℕ) → Sameness d s
  pub one_call : (s : State) (d d' : List ℕ) (r : Result Part Refusal) → refuses s.held (length d) ≡ false → OneCall s d d' r
  -- "the writer accepted": where the writer of an item i is done, having been lent a buffer that held d and now holds d', the item is
  -- accepted as it is meant above, and the buffer starts with its line. `Typed i` is what the types of the writer's parameters say, and
  -- nothing else: src/callers.rt calls each writer with any arguments, and promises the same
  pub written : (i : Item) → Typed i → (d d' : List ℕ) (r : Result ℕ WriteError) → Wrote (reasons_of i) (line_of i) d d' r → Accepts i d d' r
  -- any line of bytes that unfolding does not refuse
  pub again : (line : List ℕ) → Bytes line → refusal_of (unfold_reasons line) ≡ None → Again line

-- ── the morning's report ──────────────────────────────────────────────────────────────────────

-- RULES 17.6: "Records, directives, comments and refused lines add up to the number of lines handed out, counted from the text itself; the
-- sixty-four and the reversed ones add up to the records; the sum of lengths is exact; no count can wrap."
pub record Counts : Type 0 where
  -- the numbers of a record are positions, and a refused line is refused by one of the seven
  pub verdicts : (line : List ℕ) → Sound (verdict line)
  -- a length lies in the one power of two that it has reached, and not passed
  pub powers : (n i : ℕ) → i < 64 → 2 ^ i ≤ n → n < 2 ^ suc i → power n ≡ i
  pub adds_up : (s : List ℕ) → AddsUp s (counted nothing (lines s))
  -- 26 exactly where the exact sum passes 18446744073709551615, and then there is no report
  pub passed : (s : List ℕ) → most64 < lengths_of s → morning s ≡ Err refusal.Sum
  pub stays : (s : List ℕ) → lengths_of s ≤ most64 → morning s ≡ Ok (counted nothing (lines s))
