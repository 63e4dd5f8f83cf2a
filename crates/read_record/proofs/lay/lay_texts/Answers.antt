-- `lay_texts`: the sections one after the other. Assumes nothing.
use Prim.Native.Nat.{ℕ, ◌≤◌}
use native.Mathlib.Omega.{arith}
use mathlib.Core.Path.{◌≡◌}
use mathlib.Core.Bool.{true}
use mathlib.Core.List.{List}
use lib.Dec.{leb}
use lib.ListN.{length}
use borrow.Author.Tests.{leb-true}
use Rattle.base_lists.specs.Bytes.{percent}
use Rattle.base_scan.specs.Find.{found}
use Rattle.base_scan.specs.Part.{part, text_at}
use Rattle.base_buffer.proofs.LaidLaws.{lays_then}
use Rattle.percent_coding.specs.Percent.{decoded}
use Rattle.read_columns.specs.declared.bounds.Bounds.{Bounds}
use Rattle.read_columns.specs.declared.column.Column.{Column}
use Rattle.read_columns.specs.declared.column.Column.TheVariants as column
use Rattle.read_columns.specs.Columns.{place_in}
use Rattle.read_judge.specs.Judge.{unfolded}
use Rattle.read_judge.proofs.PlainLaws.{ahead_at, ahead_front, plain_text}
use Rattle.read_record.proofs.lay.lay_texts.Goals as goal

-- a column that ends before the first percent sign, and before its tab
plain : (column : Column) (b : Bounds) (s : List ℕ) {sign k : ℕ} → sign ≡ found percent 0 (part 0 b.type_end s) → leb k sign ≡ true
    → (place_in column b (length s)).end ≤ k
    → decoded (text_at (place_in column b (length s)) s) ≡ text_at (place_in column b (length s)) s
plain column b s {sign} {k} first h l =
    plain_text (place_in column b (length s)) (ahead_at percent s 0) (omega arith)
    (ahead_front percent b.type_end s first (omega (arith, leb-true k sign h)))

pub lay_text-at-requires : goal.lay_text-at-requires
unfolding place_in
lay_text-at-requires c h =
    let first = rw c.part.ensures at c.find-percent.ensures.first in
    rw c.text_in-name.ensures.text (plain column.ReferenceSequenceName c.args.bounds c.args.line.now first h (omega arith))

pub lay_text-at-requires-2 : goal.lay_text-at-requires-2
unfolding place_in
lay_text-at-requires-2 c h =
    let first = rw c.part.ensures at c.find-percent.ensures.first in
    rw c.text_in-source.ensures.text (plain column.Source c.args.bounds c.args.line.now first h (omega arith))

pub lay_text-at-requires-3 : goal.lay_text-at-requires-3
unfolding place_in
lay_text-at-requires-3 c h =
    let first = rw c.part.ensures at c.find-percent.ensures.first in
    rw c.text_in-ty.ensures.text (plain column.Ty c.args.bounds c.args.line.now first h (omega arith))

pub returns : goal.returns
unfolding unfolded
returns c =
    let own = c.requires in
    lays_then (rw (c.text_in-name.ensures.text, own) at c.lay_text-at.ensures)
    (lays_then (rw (c.text_in-source.ensures.text, own) at c.lay_text-at-2.ensures)
    (lays_then (rw (c.text_in-ty.ensures.text, own) at c.lay_text-at-3.ensures)
    (rw (c.score-score.ensures.text, c.text_in.ensures.text, own) at c.lay_section.ensures)))
