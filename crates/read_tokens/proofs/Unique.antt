-- Each public function's promise allows one result. Assumes nothing.
use mathlib.Core.Path.{sym, ◌∙◌}
use Rattle.base_lists.proofs.One.{OneResult}
use Rattle.read_tokens.proofs.position.position_of.Kinds as position_of_kinds
use Rattle.read_tokens.proofs.position.position_of.Reads as position_of
use Rattle.read_tokens.proofs.strand.strand_of.Kinds as strand_of_kinds
use Rattle.read_tokens.proofs.strand.strand_of.Reads as strand_of
use Rattle.read_tokens.proofs.strand.strand_number.Kinds as strand_number_kinds
use Rattle.read_tokens.proofs.strand.strand_number.Reads as strand_number
use Rattle.read_tokens.proofs.strand.strand_byte.Kinds as strand_byte_kinds
use Rattle.read_tokens.proofs.strand.strand_byte.Reads as strand_byte
use Rattle.read_tokens.proofs.phase.phase_of.Kinds as phase_of_kinds
use Rattle.read_tokens.proofs.phase.phase_of.Reads as phase_of
use Rattle.read_tokens.proofs.phase.phase_number.Kinds as phase_number_kinds
use Rattle.read_tokens.proofs.phase.phase_number.Reads as phase_number
use Rattle.read_tokens.proofs.phase.phase_byte.Kinds as phase_byte_kinds
use Rattle.read_tokens.proofs.phase.phase_byte.Reads as phase_byte

position_of_one : OneResult 1 position_of_kinds.ps position_of_kinds.r position_of.Post
position_of_one κs a x y s t p q = p ∙ sym q

strand_of_one : OneResult 1 strand_of_kinds.ps strand_of_kinds.r strand_of.Post
strand_of_one κs a x y s t p q = p ∙ sym q

strand_number_one : OneResult 0 strand_number_kinds.ps strand_number_kinds.r strand_number.Post
strand_number_one κs a x y s t p q = p ∙ sym q

strand_byte_one : OneResult 0 strand_byte_kinds.ps strand_byte_kinds.r strand_byte.Post
strand_byte_one κs a x y s t p q = p ∙ sym q

phase_of_one : OneResult 1 phase_of_kinds.ps phase_of_kinds.r phase_of.Post
phase_of_one κs a x y s t p q = p ∙ sym q

phase_number_one : OneResult 0 phase_number_kinds.ps phase_number_kinds.r phase_number.Post
phase_number_one κs a x y s t p q = p ∙ sym q

phase_byte_one : OneResult 0 phase_byte_kinds.ps phase_byte_kinds.r phase_byte.Post
phase_byte_one κs a x y s t p q = p ∙ sym q
