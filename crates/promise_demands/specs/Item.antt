-- An item of a GFF3 text: a record, a directive or a comment, as it is handed to its writer; the line that the writer makes of it, and
-- what it is for a line to read back as it. RULES 8, 9. Assumes nothing: these are definitions.
use Rattle.std.specs.Prelude.{ℕ, ◌≤◌, ◌≡◌, None, Result, Ok, Err, List, ◌++◌, length, drop}
use Rattle.base_lists.specs.Bytes.{Bytes}
use Rattle.base_buffer.specs.declared.WriteError.{WriteError}
use Rattle.base_buffer.specs.Answer.{Reason, refusal_of}
use Rattle.read_numbers.specs.Number.{most64}
use Rattle.read_kind.specs.Kind.{kind}
use Rattle.read_kind.specs.declared.kind.Kind.TheVariants.{Directive, Comment}
use Rattle.read_kind.specs.Reading.{ReadsComment, ReadsDirective}
use Rattle.read_tokens.specs.Tokens.{strand_number, phase_number}
use Rattle.sheet_form.specs.Sheet.{sheet_of}
use Rattle.read_judge.specs.Judge.{unfolded, numbers_of}
use Rattle.write_directive.specs.declared.directive.Value.{Value}
use Rattle.write_comment.specs.Comment.{comment_reasons, comment_line}
use Rattle.write_directive.specs.Directive.{directive_reasons, directive_line}
use Rattle.write_directive.specs.Reading.{value_text, Sized, Back}
use Rattle.write_measure.specs.Record.{record_reasons, record_line}
use Rattle.promise_roundtrip.specs.Reading.{ReadsRecord}

-- a record: its field sheet, and start, end, strand and phase beside it as numbers; a directive: its key, its value, and the two texts that
-- the value may use (a string; a region's name; a build's source and name); a comment: its text
pub data Item : Type 0 where
  feature : (sheet : List ℕ) → (start end strand phase : ℕ) → Item
  directive : (key : List ℕ) → Value → (first second : List ℕ) → Item
  comment : (text : List ℕ) → Item

-- the line that the item's writer makes of it, without the line feed
unfoldable pub line_of : Item → List ℕ
line_of (feature sheet start end strand phase) = record_line sheet start end strand phase
line_of (directive key value first second) = directive_line key value first second
line_of (comment text) = comment_line text

-- why the writer refuses it, in order
unfoldable pub reasons_of : Item → List Reason
reasons_of (feature sheet start end strand phase) = record_reasons sheet start end strand phase
reasons_of (directive key value first second) = directive_reasons key value first second
reasons_of (comment text) = comment_reasons text

-- what the types of the writer's parameters say: texts are bytes, positions have 64 bits, the parts of a version 32
unfoldable pub Typed : Item → Type 0
Typed (feature sheet start end strand phase) = Bytes sheet × (start ≤ most64) × (end ≤ most64)
Typed (directive key value first second) = Bytes key × Sized value × Bytes first × Bytes second
Typed (comment text) = Bytes text

-- the writer accepts the item: no reason to refuse it holds
abbrev pub Accepted : Item → Type 0
Accepted i = Typed i × (refusal_of (reasons_of i) ≡ None)

-- what an answer of its writer says of it: where the writer is done, the item is accepted, and the buffer, which held d before and holds d'
-- after, starts with its line
abbrev pub Accepts : Item → List ℕ → List ℕ → Result ℕ WriteError → Type 0
Accepts i d d' (Ok n) = Accepted i × (n ≡ length (line_of i)) × (d' ≡ line_of i ++ drop n d)
Accepts i d d' (Err e) = Unit {0}

-- the record that a line unfolds to, as it is handed to the writer again: RULES 9.5
abbrev pub item_again : List ℕ → Item
item_again line =
    let n = numbers_of line in
    feature (sheet_of (unfolded line)) n.start n.end (strand_number n.strand) (phase_number n.phase)

-- "An item reads back when its line has the item's kind and, given room, the same sheet and numbers (record), text (comment), or key and
-- value text (directive; a typed value also comes back from its own reader)." By what `kind_of`, `unfold`, `comment_of`, `directive_of` and
-- the parsers of the three typed values answer.
unfoldable pub ReadsBack : Item → List ℕ → Type 0
ReadsBack (feature sheet start end strand phase) line = ReadsRecord line sheet start end strand phase
ReadsBack (directive key value first second) line =
    (kind line ≡ Directive) × ReadsDirective line key (value_text value first second) × Back value first second
ReadsBack (comment text) line = (kind line ≡ Comment) × ReadsComment line text
