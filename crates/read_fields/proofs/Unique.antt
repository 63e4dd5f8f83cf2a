-- Each public function's promise allows one result and one content of a lent buffer. Assumes nothing.
use mathlib.Core.Path.{sym, ◌∙◌}
use Rattle.base_lists.proofs.One.{One, OneResult}
use Rattle.base_buffer.proofs.AnswerLaws.{wrote_one}
use Rattle.read_fields.proofs.position.start_at.Kinds as start_at_kinds
use Rattle.read_fields.proofs.position.start_at.Reads as start_at
use Rattle.read_fields.proofs.position.end_at.Kinds as end_at_kinds
use Rattle.read_fields.proofs.position.end_at.Reads as end_at
use Rattle.read_fields.proofs.score.score_at.Kinds as score_at_kinds
use Rattle.read_fields.proofs.score.score_at.Reads as score_at
use Rattle.read_fields.proofs.strand.strand_at.Kinds as strand_at_kinds
use Rattle.read_fields.proofs.strand.strand_at.Reads as strand_at
use Rattle.read_fields.proofs.record.record_of.Kinds as record_of_kinds
use Rattle.read_fields.proofs.record.record_of.Reads as record_of
use Rattle.read_fields.proofs.phase.phase_at.Kinds as phase_at_kinds
use Rattle.read_fields.proofs.phase.phase_at.Reads as phase_at
use Rattle.read_fields.proofs.texts.reference_sequence_name.Kinds as reference_sequence_name_kinds
use Rattle.read_fields.proofs.texts.reference_sequence_name.Reads as reference_sequence_name
use Rattle.read_fields.proofs.texts.source.Kinds as source_kinds
use Rattle.read_fields.proofs.texts.source.Reads as source
use Rattle.read_fields.proofs.texts.ty.Kinds as ty_kinds
use Rattle.read_fields.proofs.texts.ty.Reads as ty

start_at_one : OneResult 1 start_at_kinds.ps start_at_kinds.r start_at.Post
start_at_one κs a x y s t p q = p ∙ sym q

end_at_one : OneResult 1 end_at_kinds.ps end_at_kinds.r end_at.Post
end_at_one κs a x y s t p q = p ∙ sym q

score_at_one : OneResult 1 score_at_kinds.ps score_at_kinds.r score_at.Post
score_at_one κs a x y s t p q = p ∙ sym q

strand_at_one : OneResult 1 strand_at_kinds.ps strand_at_kinds.r strand_at.Post
strand_at_one κs a x y s t p q = p ∙ sym q

phase_at_one : OneResult 1 phase_at_kinds.ps phase_at_kinds.r phase_at.Post
phase_at_one κs a x y s t p q = p ∙ sym q

record_of_one : OneResult 1 record_of_kinds.ps record_of_kinds.r record_of.Post
record_of_one κs a x y s t p q = p ∙ sym q

reference_sequence_name_one : One 2 reference_sequence_name_kinds.ps reference_sequence_name_kinds.r reference_sequence_name.Post
    (λ κs x. x) (λ κs s. s.1.1.0.now)
reference_sequence_name_one κs a x y s t p q = wrote_one p q

source_one : One 2 source_kinds.ps source_kinds.r source.Post (λ κs x. x) (λ κs s. s.1.1.0.now)
source_one κs a x y s t p q = wrote_one p q

ty_one : One 2 ty_kinds.ps ty_kinds.r ty.Post (λ κs x. x) (λ κs s. s.1.1.0.now)
ty_one κs a x y s t p q = wrote_one p q
