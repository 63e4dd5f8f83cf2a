-- Laws of items: what it means that a writer accepted one; that the line of such an item is one line, from which it reads back; and that a
-- line that was unfolded is such an item again. Assumes nothing.
use Prim.Native.Nat.{ℕ}
use mathlib.Core.Path.{◌≡◌, ◌∙◌}
use mathlib.Core.List.{List}
use Rattle.base_lists.specs.Bytes.{Bytes}
use Rattle.std.specs.Prelude.{None, Result, Ok, Err}
use Rattle.base_buffer.specs.declared.WriteError.{WriteError}
use Rattle.base_buffer.specs.Answer.{refusal_of, Wrote}
use Rattle.base_buffer.proofs.AnswerLaws.{wrote_means}
use Rattle.read_lines.specs.Lines.{OneLine}
use Rattle.read_columns.specs.declared.column.Column.TheVariants as column
use Rattle.read_columns.specs.Columns.{column_text}
use Rattle.read_judge.specs.Judge.{numbers_of, unfold_reasons}
use Rattle.write_comment.proofs.RoundTrip.{comment_kind, comment_back, comment_one}
use Rattle.write_directive.proofs.RoundTrip.{directive_kind, directive_back, directive_one, typed_back}
use Rattle.promise_roundtrip.proofs.BytesLaws.{unfolded_bytes, position_le}
use Rattle.promise_roundtrip.proofs.RecordBack.{record_one, record_back}
use Rattle.promise_roundtrip.proofs.Again.{refused_again}
use Rattle.promise_demands.specs.Item.{Item, feature, directive, comment, line_of, reasons_of, Typed, Accepted, Accepts, ReadsBack}
use Rattle.promise_demands.specs.Item.{item_again}
use Rattle.promise_survival.specs.Survival.{Sound}
use Rattle.promise_demands.specs.Demand.{gff3, Again}

-- ── what a writer accepted ────────────────────────────────────────────────────────────────────

-- for any buffer, by the writer's promise
pub done_accepted : (i : Item) → Typed i → (d d' : List ℕ) (r : Result ℕ WriteError) → Wrote (reasons_of i) (line_of i) d d' r → Accepts i d d' r
done_accepted i t d d' (Ok n) w = let m = wrote_means w in ((t, m.0), m.1, m.2)
done_accepted i t d d' (Err e) w = tt

-- ── its line ──────────────────────────────────────────────────────────────────────────────────

pub item_one : (i : Item) → Accepted i → OneLine (line_of i)
unfolding line_of reasons_of Typed
item_one (comment text) (t, e) = comment_one text e
item_one (directive key value first second) (t, e) = directive_one key value first second e
item_one (feature sheet start end strand phase) (t, e) = record_one sheet start end strand phase t.0 t.1 t.2 e

pub item_back : (i : Item) → Accepted i → ReadsBack i (line_of i)
unfolding line_of reasons_of Typed ReadsBack
item_back (comment text) (t, e) = (comment_kind text e, comment_back text e)
item_back (directive key value first second) (t, e) =
    (directive_kind key value first second e, directive_back key value first second e, typed_back key value first second e t.1)
item_back (feature sheet start end strand phase) (t, e) = record_back sheet start end strand phase t.0 t.1 t.2 e

-- what demand 3 has to know of items
pub sound : Sound gff3
sound = record { one = item_one; back = item_back }

-- ── a line that was unfolded ──────────────────────────────────────────────────────────────────

pub again_accepted : (line : List ℕ) → Bytes line → refusal_of (unfold_reasons line) ≡ None → Again line
unfolding reasons_of Typed numbers_of
again_accepted line bytes none =
    let same = refused_again line bytes none in
    let low = position_le (column_text column.Start line) in
    let high = position_le (column_text column.End line) in
    record {
      refused = same;
      accepted = λ left.
          let a : Accepted (item_again line) = ((unfolded_bytes line bytes, low, high), same ∙ left) in
          (a, item_back (item_again line) a);
    }
