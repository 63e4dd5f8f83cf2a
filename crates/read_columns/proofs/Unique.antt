-- Each public function's promise allows one result and one content of a lent buffer. Assumes nothing.
use Rattle.std.proofs.Common.{sym, ◌∙◌}
use Rattle.base_lists.proofs.One.{OneResult, OneShown}
use Rattle.read_columns.proofs.bounds.index.Kinds as index_kinds
use Rattle.read_columns.proofs.bounds.index.Reads as index
use Rattle.read_columns.proofs.bounds.own.Kinds as own_kinds
use Rattle.read_columns.proofs.bounds.own.Reads as own
use Rattle.read_columns.proofs.column.column_at.Kinds as column_at_kinds
use Rattle.read_columns.proofs.column.column_at.Reads as column_at
use Rattle.read_columns.proofs.column.place_in.Kinds as place_in_kinds
use Rattle.read_columns.proofs.column.place_in.Reads as place_in
use Rattle.read_columns.proofs.column.text_in.Kinds as text_in_kinds
use Rattle.read_columns.proofs.column.text_in.Reads as text_in

index_one : OneResult 1 index_kinds.ps index_kinds.r index.Post
index_one κs a x y s t p q = p ∙ sym q

own_one : OneResult 1 own_kinds.ps own_kinds.r own.Post
own_one κs a x y s t p q = p ∙ sym q

column_at_one : OneResult 1 column_at_kinds.ps column_at_kinds.r column_at.Post
column_at_one κs a x y s t p q = p ∙ sym q

place_in_one : OneResult 0 place_in_kinds.ps place_in_kinds.r place_in.Post
place_in_one κs a x y s t p q = p ∙ sym q

text_in_one : OneShown 1 text_in_kinds.ps text_in_kinds.r text_in.Post (λ κs x. x.now)
text_in_one κs a x y s t p q = p.0 ∙ sym q.0
