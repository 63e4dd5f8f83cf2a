-- Each public function's promise allows one result and one content of a lent buffer. Assumes nothing.
use mathlib.Core.Path.{sym, ◌∙◌}
use Rattle.base_lists.proofs.One.{OneResult, OneShown}
use Rattle.percent_sets.proofs.table.Kinds as table_kinds
use Rattle.percent_sets.proofs.table.Reads as table
use Rattle.percent_sets.proofs.classes.Kinds as classes_kinds
use Rattle.percent_sets.proofs.classes.Reads as classes
use Rattle.percent_sets.proofs.escaped_by.Kinds as escaped_by_kinds
use Rattle.percent_sets.proofs.escaped_by.Reads as escaped_by
use Rattle.percent_sets.proofs.escaped.Kinds as escaped_kinds
use Rattle.percent_sets.proofs.escaped.Reads as escaped

table_one : OneShown 1 table_kinds.ps table_kinds.r table.Post (λ κs x. x.now)
table_one κs a x y s t p q = p ∙ sym q

classes_one : OneResult 0 classes_kinds.ps classes_kinds.r classes.Post
classes_one κs a x y s t p q = p ∙ sym q

escaped_by_one : OneResult 1 escaped_by_kinds.ps escaped_by_kinds.r escaped_by.Post
escaped_by_one κs a x y s t p q = p ∙ sym q

escaped_one : OneResult 0 escaped_kinds.ps escaped_kinds.r escaped.Post
escaped_one κs a x y s t p q = p ∙ sym q
