-- Each public function's promise allows one result and one content of a lent buffer. Assumes nothing.
use mathlib.Core.Path.{sym, ◌∙◌}
use Rattle.base_lists.proofs.One.{One, OneResult}
use Rattle.read_parts.proofs.CallLaws.{leaves_one}
use Rattle.read_parts.proofs.take_part.Kinds as take_part_kinds
use Rattle.read_parts.proofs.take_part.Reads as take_part
use Rattle.read_parts.proofs.end_parts.Kinds as end_parts_kinds
use Rattle.read_parts.proofs.end_parts.Reads as end_parts
use Rattle.read_parts.proofs.state.State.new.Kinds as state_new_kinds
use Rattle.read_parts.proofs.state.State.new.Reads as state_new

take_part_one : One 2 take_part_kinds.ps take_part_kinds.r take_part.Post (λ κs x. x) (λ κs s. s.1.0.now)
take_part_one κs a x y s t p q = leaves_one p q

end_parts_one : One 1 end_parts_kinds.ps end_parts_kinds.r end_parts.Post (λ κs x. x) (λ κs s. s.1.0.now)
end_parts_one κs a x y s t p q = leaves_one p q

state_new_one : OneResult 0 state_new_kinds.ps state_new_kinds.r state_new.Post
state_new_one κs a x y s t p q = p ∙ sym q
