-- Each public function's promise allows one result and one content of a lent buffer. Assumes nothing.
use Rattle.base_lists.proofs.One.{One}
use Rattle.read_parts.proofs.CallLaws.{leaves_one}
use Rattle.c_answers.proofs.AnswersLaws.{as_c_one}
use Rattle.c_parts.proofs.gff3_take_part.Kinds as take_part_kinds
use Rattle.c_parts.proofs.gff3_take_part.Reads as take_part
use Rattle.c_parts.proofs.gff3_end_parts.Kinds as end_parts_kinds
use Rattle.c_parts.proofs.gff3_end_parts.Reads as end_parts

take_part_one : One 2 take_part_kinds.ps take_part_kinds.r take_part.Post (λ κs x. x) (λ κs s. s.1.0.now)
take_part_one κs a x y s t p q = as_c_one (λ _ _. leaves_one) p q

end_parts_one : One 1 end_parts_kinds.ps end_parts_kinds.r end_parts.Post (λ κs x. x) (λ κs s. s.1.0.now)
end_parts_one κs a x y s t p q = as_c_one (λ _ _. leaves_one) p q
