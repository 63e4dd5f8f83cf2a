-- The public function's promise allows one result and one content of a lent buffer. Assumes nothing.
use Rattle.base_lists.proofs.One.{One}
use Rattle.base_buffer.proofs.AnswerLaws.{wrote_one}
use Rattle.write_directive.proofs.directive.write_directive.Kinds as write_directive_kinds
use Rattle.write_directive.proofs.directive.write_directive.Reads as write_directive

write_directive_one : One 4 write_directive_kinds.ps write_directive_kinds.r write_directive.Post (λ κs x. x)
    (λ κs s. s.1.1.1.1.0.now)
write_directive_one κs a x y s t p q = wrote_one p q
