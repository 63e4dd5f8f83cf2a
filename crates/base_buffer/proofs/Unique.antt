-- Each public function's promise allows one result and one content of a lent buffer. Assumes nothing.
use mathlib.Core.Path.{sym, ◌∙◌}
use Rattle.base_lists.proofs.One.{One, OneResult}
use Rattle.base_buffer.proofs.AnswerLaws.{lays_one}
use Rattle.base_buffer.proofs.lay_byte.Kinds as lay_byte_kinds
use Rattle.base_buffer.proofs.lay_byte.Reads as lay_byte
use Rattle.base_buffer.proofs.lay.Kinds as lay_kinds
use Rattle.base_buffer.proofs.lay.Reads as lay
use Rattle.base_buffer.proofs.WriteError.number.Kinds as number_kinds
use Rattle.base_buffer.proofs.WriteError.number.Reads as number

lay_byte_one : One 1 lay_byte_kinds.ps lay_byte_kinds.r lay_byte.Post (λ κs x. x) (λ κs s. s.1.0.now)
lay_byte_one κs a x y s t p q = lays_one p q

lay_one : One 2 lay_kinds.ps lay_kinds.r lay.Post (λ κs x. x) (λ κs s. s.1.0.now)
lay_one κs a x y s t p q = lays_one p q

number_one : OneResult 0 number_kinds.ps number_kinds.r number.Post
number_one κs a x y s t p q = p ∙ sym q
