-- The public function's promise allows one result and one content of the lent buffer. Assumes nothing.
use Rattle.base_lists.proofs.One.{One}
use Rattle.base_buffer.proofs.AnswerLaws.{wrote_one}
use Rattle.write_record.proofs.write.write_record.Kinds as write_record_kinds
use Rattle.write_record.proofs.write.write_record.Reads as write_record

write_record_one : One 2 write_record_kinds.ps write_record_kinds.r write_record.Post (λ κs x. x) (λ κs s. s.1.1.1.1.1.0.now)
write_record_one κs a x y s t p q = wrote_one p q
