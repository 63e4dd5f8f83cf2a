-- Each public function's promise allows one result and one content of a lent buffer. Assumes nothing.
use mathlib.Core.Path.{refl, sym, ◌∙◌}
use mir.Syntax.{Dict}
use denote.RattleType.{RattleType}
use denote.Param.Laws.{Laws}
use Rattle.base_lists.proofs.One.{One, OneResult}
use Rattle.base_buffer.proofs.AnswerLaws.{lays_one, wrote_one}
use Rattle.base_sink.specs.declared.Sink.{Ghosts}
use Rattle.percent_encode.proofs.count_escaped.Kinds as count_escaped_kinds
use Rattle.percent_encode.proofs.count_escaped.Reads as count_escaped
use Rattle.percent_encode.proofs.lay_encoded.Kinds as lay_encoded_kinds
use Rattle.percent_encode.proofs.lay_encoded.Reads as lay_encoded
use Rattle.percent_encode.proofs.put.put_encoded.Kinds as put_encoded_kinds
use Rattle.percent_encode.proofs.put.put_encoded.Reads as put_encoded
use Rattle.percent_encode.proofs.encode.Kinds as encode_kinds
use Rattle.percent_encode.proofs.encode.Reads as encode
use Rattle.percent_encode.proofs.encoded_len.Kinds as encoded_len_kinds
use Rattle.percent_encode.proofs.encoded_len.Reads as encoded_len

count_escaped_one : OneResult 1 count_escaped_kinds.ps count_escaped_kinds.r count_escaped.Post
count_escaped_one κs a x y s t p q = p.0 ∙ sym q.0

lay_encoded_one : One 2 lay_encoded_kinds.ps lay_encoded_kinds.r lay_encoded.Post (λ κs x. x) (λ κs s. s.1.1.0.now)
lay_encoded_one κs a x y s t p q = lays_one p q

encode_one : One 2 encode_kinds.ps encode_kinds.r encode.Post (λ κs x. x) (λ κs s. s.1.1.0.now)
encode_one κs a x y s t p q = wrote_one p q

encoded_len_one : OneResult 1 encoded_len_kinds.ps encoded_len_kinds.r encoded_len.Post
encoded_len_one κs a x y s t p q = p.0 ∙ sym q.0

put_encoded_one : (S : RattleType) (l : Laws S) (g : Ghosts S.Denot) (d : Dict)
    → One 3 (put_encoded_kinds.ps S l) (put_encoded_kinds.r S l) (put_encoded.Post S l g d) (λ κs x. x) (λ κs s. g.shows s.1.1.0.now)
put_encoded_one S l g d κs a x y s t p q = (refl, g.laws.one _ _ _ _ p q)
