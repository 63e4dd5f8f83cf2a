-- `index` answers the line's bounds, by the mask or by eight cuts, or refuses. Assumes nothing.
use Rattle.std.proofs.Common.{◌≡◌, take, ap, ◌∙◌, le-leb}
use borrow.Author.Tests.{lt-leb}
use Rattle.base_lists.specs.Bytes.{tab}
use Rattle.base_scan.specs.Mask.{mask}
use Rattle.read_columns.specs.Columns.{ends, indexed}
use Rattle.read_columns.specs.Inner.Near.{near_ends}
use Rattle.read_columns.proofs.NearLaws.{near_own}
use Rattle.read_columns.proofs.bounds.index.Goals as goal

pub returns-then-near-le64 : goal.returns-then-near-le64
unfolding indexed
returns-then-near-le64 c =
    let by_mask : c.near_ends-near.result ≡ near_ends (mask tab (take 64 c.args.line.now)) = c.near_ends-near.ensures ∙ ap near_ends c.marks.ensures in
    let own = near_own c.args.line.now (rw (by_mask) at c.if-near-le64.true) in
    rw (by_mask, own.0, own.1)

pub cut-bounds-requires : goal.cut-bounds-requires
cut-bounds-requires c =
    let by_mask : c.near_ends-near.result ≡ near_ends (mask tab (take 64 c.args.line.now)) = c.near_ends-near.ensures ∙ ap near_ends c.marks.ensures in
    by_mask

pub returns-then-bounds-line : goal.returns-then-bounds-line
unfolding indexed ends
returns-then-bounds-line c = rw (le-leb _ _ (rw c.cut-bounds.ensures at c.if-bounds-line.true), c.cut-bounds.ensures)

pub returns-else-bounds-line : goal.returns-else-bounds-line
unfolding indexed ends
returns-else-bounds-line c = rw (lt-leb _ _ (rw c.cut-bounds.ensures at c.if-bounds-line.false))
