-- Each public function's promise allows one result and one content of a lent buffer. Assumes nothing.
use mathlib.Core.Path.{sym, ◌∙◌}
use Rattle.base_lists.proofs.One.{OneResult}
use Rattle.read_kind.proofs.kind.kind_of.Kinds as kind_of_kinds
use Rattle.read_kind.proofs.kind.kind_of.Reads as kind_of
use Rattle.read_kind.proofs.comment.comment_of.Kinds as comment_of_kinds
use Rattle.read_kind.proofs.comment.comment_of.Reads as comment_of
use Rattle.read_kind.proofs.directive.directive_of.Kinds as directive_of_kinds
use Rattle.read_kind.proofs.directive.directive_of.Reads as directive_of

kind_of_one : OneResult 1 kind_of_kinds.ps kind_of_kinds.r kind_of.Post
kind_of_one κs a x y s t p q = p ∙ sym q

comment_of_one : OneResult 1 comment_of_kinds.ps comment_of_kinds.r comment_of.Post
comment_of_one κs a x y s t p q = p ∙ sym q

directive_of_one : OneResult 1 directive_of_kinds.ps directive_of_kinds.r directive_of.Post
directive_of_one κs a x y s t p q = p ∙ sym q
