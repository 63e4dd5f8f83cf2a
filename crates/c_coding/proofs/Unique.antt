-- Each public function's promise allows one result and one content of a lent buffer. Assumes nothing.
use mathlib.Core.Path.{sym, ◌∙◌}
use Rattle.base_lists.proofs.One.{One, OneResult}
use Rattle.c_answers.proofs.AnswersLaws.{c_wrote_one}
use Rattle.c_coding.proofs.gff3_decode.Kinds as decode_kinds
use Rattle.c_coding.proofs.gff3_decode.Reads as decode
use Rattle.c_coding.proofs.gff3_encode.Kinds as encode_kinds
use Rattle.c_coding.proofs.gff3_encode.Reads as encode
use Rattle.c_coding.proofs.gff3_position.Kinds as position_kinds
use Rattle.c_coding.proofs.gff3_position.Reads as position

decode_one : One 2 decode_kinds.ps decode_kinds.r decode.Post (λ κs x. x) (λ κs s. s.1.0.now)
decode_one κs a x y s t p q = c_wrote_one p q

encode_one : One 2 encode_kinds.ps encode_kinds.r encode.Post (λ κs x. x) (λ κs s. s.1.1.0.now)
encode_one κs a x y s t p q = c_wrote_one p q

position_one : OneResult 1 position_kinds.ps position_kinds.r position.Post
position_one κs a x y s t p q = p ∙ sym q
