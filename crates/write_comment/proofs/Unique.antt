-- The public function's promise allows one result and one content of a lent buffer. Assumes nothing.
use Rattle.base_lists.proofs.One.{One}
use Rattle.base_buffer.proofs.AnswerLaws.{wrote_one}
use Rattle.write_comment.proofs.write_comment.Kinds as write_comment_kinds
use Rattle.write_comment.proofs.write_comment.Reads as write_comment

write_comment_one : One 2 write_comment_kinds.ps write_comment_kinds.r write_comment.Post (λ κs x. x) (λ κs s. s.1.0.now)
write_comment_one κs a x y s t p q = wrote_one p q
