-- Each public function's promise allows one result and one content of a lent buffer. Assumes nothing.
use mathlib.Core.Path.{refl, sym, ◌∙◌}
use mir.Syntax.{Dict}
use denote.RattleType.{RattleType}
use denote.Param.Laws.{Laws}
use Rattle.base_lists.proofs.One.{One, OneResult}
use Rattle.base_buffer.proofs.AnswerLaws.{lays_one, wrote_one}
use Rattle.base_sink.specs.declared.Sink.{Ghosts}
use Rattle.percent_decode.proofs.decode.Kinds as decode_kinds
use Rattle.percent_decode.proofs.decode.Reads as decode
use Rattle.percent_decode.proofs.decoded_len.Kinds as decoded_len_kinds
use Rattle.percent_decode.proofs.decoded_len.Reads as decoded_len
use Rattle.percent_decode.proofs.decodes_to.Kinds as decodes_to_kinds
use Rattle.percent_decode.proofs.decodes_to.Reads as decodes_to
use Rattle.percent_decode.proofs.lay_decoded.Kinds as lay_decoded_kinds
use Rattle.percent_decode.proofs.lay_decoded.Reads as lay_decoded
use Rattle.percent_decode.proofs.put.put_decoded.Kinds as put_decoded_kinds
use Rattle.percent_decode.proofs.put.put_decoded.Reads as put_decoded

decode_one : One 2 decode_kinds.ps decode_kinds.r decode.Post (λ κs x. x) (λ κs s. s.1.0.now)
decode_one κs a x y s t p q = wrote_one p q

decoded_len_one : OneResult 1 decoded_len_kinds.ps decoded_len_kinds.r decoded_len.Post
decoded_len_one κs a x y s t p q = p.0 ∙ sym q.0

decodes_to_one : OneResult 2 decodes_to_kinds.ps decodes_to_kinds.r decodes_to.Post
decodes_to_one κs a x y s t p q = p ∙ sym q

lay_decoded_one : One 2 lay_decoded_kinds.ps lay_decoded_kinds.r lay_decoded.Post (λ κs x. x) (λ κs s. s.1.0.now)
lay_decoded_one κs a x y s t p q = lays_one p q

put_decoded_one : (S : RattleType) (l : Laws S) (g : Ghosts S.Denot) (d : Dict)
    → One 3 (put_decoded_kinds.ps S l) (put_decoded_kinds.r S l) (put_decoded.Post S l g d) (λ κs x. x) (λ κs s. g.shows s.1.0.now)
put_decoded_one S l g d κs a x y s t p q = (refl, g.laws.one _ _ _ _ p q)
