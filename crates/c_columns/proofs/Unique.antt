-- The public function's promise allows one result. Assumes nothing.
use mathlib.Core.Path.{sym, ◌∙◌}
use Rattle.base_lists.proofs.One.{OneResult}
use Rattle.c_columns.proofs.gff3_column.Kinds as gff3_column_kinds
use Rattle.c_columns.proofs.gff3_column.Reads as gff3_column

gff3_column_one : OneResult 1 gff3_column_kinds.ps gff3_column_kinds.r gff3_column.Post
gff3_column_one κs a x y s t p q = p ∙ sym q
