-- Each public function's promise allows one result. Assumes nothing.
use mathlib.Core.Path.{sym, ◌∙◌}
use Rattle.base_lists.proofs.One.{OneResult}
use Rattle.c_answers.proofs.bounds_in.Kinds as bounds_kinds
use Rattle.c_answers.proofs.bounds_in.Reads as bounds
use Rattle.c_answers.proofs.bounds_out.Kinds as bounds_out_kinds
use Rattle.c_answers.proofs.bounds_out.Reads as bounds_out
use Rattle.c_answers.proofs.no_bounds.Kinds as no_bounds_kinds
use Rattle.c_answers.proofs.no_bounds.Reads as no_bounds
use Rattle.c_answers.proofs.position_of.Kinds as position_kinds
use Rattle.c_answers.proofs.position_of.Reads as position
use Rattle.c_answers.proofs.written_of.Kinds as written_kinds
use Rattle.c_answers.proofs.written_of.Reads as written

bounds_one : OneResult 0 bounds_kinds.ps bounds_kinds.r bounds.Post
bounds_one κs a x y s t p q = p ∙ sym q

bounds_out_one : OneResult 0 bounds_out_kinds.ps bounds_out_kinds.r bounds_out.Post
bounds_out_one κs a x y s t p q = p ∙ sym q

no_bounds_one : OneResult 0 no_bounds_kinds.ps no_bounds_kinds.r no_bounds.Post
no_bounds_one κs a x y s t p q = p ∙ sym q

position_one : OneResult 0 position_kinds.ps position_kinds.r position.Post
position_one κs a x y s t p q = p ∙ sym q

written_one : OneResult 0 written_kinds.ps written_kinds.r written.Post
written_one κs a x y s t p q = p ∙ sym q
