-- Each public function's promise allows one result and one content of a lent buffer. Assumes nothing.
use mathlib.Core.Path.{refl, sym, ◌∙◌}
use mir.Syntax.{Dict}
use denote.RattleType.{RattleType}
use denote.Param.Laws.{Laws}
use Rattle.base_lists.proofs.One.{One, OneResult}
use Rattle.base_buffer.proofs.AnswerLaws.{lays_one, wrote_one}
use Rattle.base_sink.specs.declared.Sink.{Ghosts}
use Rattle.write_decimals.proofs.decimal_len.Kinds as decimal_len_kinds
use Rattle.write_decimals.proofs.decimal_len.Reads as decimal_len
use Rattle.write_decimals.proofs.lay_decimal.Kinds as lay_decimal_kinds
use Rattle.write_decimals.proofs.lay_decimal.Reads as lay_decimal
use Rattle.write_decimals.proofs.put_decimal.Kinds as put_decimal_kinds
use Rattle.write_decimals.proofs.put_decimal.Reads as put_decimal
use Rattle.write_decimals.proofs.write_decimal.Kinds as write_decimal_kinds
use Rattle.write_decimals.proofs.write_decimal.Reads as write_decimal

decimal_len_one : OneResult 0 decimal_len_kinds.ps decimal_len_kinds.r decimal_len.Post
decimal_len_one κs a x y s t p q = p.0 ∙ sym q.0

lay_decimal_one : One 1 lay_decimal_kinds.ps lay_decimal_kinds.r lay_decimal.Post (λ κs x. x) (λ κs s. s.1.0.now)
lay_decimal_one κs a x y s t p q = lays_one p q

write_decimal_one : One 1 write_decimal_kinds.ps write_decimal_kinds.r write_decimal.Post (λ κs x. x) (λ κs s. s.1.0.now)
write_decimal_one κs a x y s t p q = wrote_one p q

put_decimal_one : (S : RattleType) (l : Laws S) (g : Ghosts S.Denot) (d : Dict)
    → One 2 (put_decimal_kinds.ps S l) (put_decimal_kinds.r S l) (put_decimal.Post S l g d) (λ κs x. x) (λ κs s. g.shows s.1.0.now)
put_decimal_one S l g d κs a x y s t p q = (refl, g.laws.one _ _ _ _ p q)
