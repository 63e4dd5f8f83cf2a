-- Each public function's promise allows one result and one content of a lent buffer. Assumes nothing.
use Rattle.base_lists.proofs.One.{One}
use Rattle.c_answers.proofs.AnswersLaws.{c_wrote_one}
use Rattle.c_write.proofs.gff3_write_record.Kinds as line_kinds
use Rattle.c_write.proofs.gff3_write_record.Reads as line
use Rattle.c_write.proofs.gff3_write_comment.Kinds as comment_kinds
use Rattle.c_write.proofs.gff3_write_comment.Reads as comment
use Rattle.c_write.proofs.gff3_write_directive.Kinds as directive_kinds
use Rattle.c_write.proofs.gff3_write_directive.Reads as directive

line_one : One 2 line_kinds.ps line_kinds.r line.Post (λ κs x. x) (λ κs s. s.1.1.1.1.1.0.now)
line_one κs a x y s t p q = c_wrote_one p q

comment_one : One 2 comment_kinds.ps comment_kinds.r comment.Post (λ κs x. x) (λ κs s. s.1.0.now)
comment_one κs a x y s t p q = c_wrote_one p q

directive_one : One 4 directive_kinds.ps directive_kinds.r directive.Post (λ κs x. x) (λ κs s. s.1.1.1.1.0.now)
directive_one κs a x y s t p q = c_wrote_one p q
