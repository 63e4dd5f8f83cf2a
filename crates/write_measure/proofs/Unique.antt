-- Each public function's promise allows one result. Assumes nothing.
use mathlib.Core.Path.{sym, ◌∙◌}
use Rattle.base_lists.proofs.One.{OneResult}
use Rattle.write_measure.proofs.reasons.fault.Kinds as fault_kinds
use Rattle.write_measure.proofs.reasons.fault.Reads as fault
use Rattle.write_measure.proofs.measuring.measure.Kinds as measure_kinds
use Rattle.write_measure.proofs.measuring.measure.Reads as measure
use Rattle.write_measure.proofs.measuring.refusal.Kinds as refusal_kinds
use Rattle.write_measure.proofs.measuring.refusal.Reads as refusal

fault_one : OneResult 1 fault_kinds.ps fault_kinds.r fault.Post
fault_one κs a x y s t p q = p.0 ∙ sym q.0

measure_one : OneResult 1 measure_kinds.ps measure_kinds.r measure.Post
measure_one κs a x y s t p q = p ∙ sym q

refusal_one : OneResult 1 refusal_kinds.ps refusal_kinds.r refusal.Post
refusal_one κs a x y s t p q = p ∙ sym q
