-- The public function's promise allows one result. Assumes nothing.
use mathlib.Core.Path.{sym, ◌∙◌}
use Rattle.base_lists.proofs.One.{OneResult}
use Rattle.c_phase.proofs.gff3_phase.Kinds as phase_kinds
use Rattle.c_phase.proofs.gff3_phase.Reads as phase

phase_one : OneResult 1 phase_kinds.ps phase_kinds.r phase.Post
phase_one κs a x y s t p q = p ∙ sym q
