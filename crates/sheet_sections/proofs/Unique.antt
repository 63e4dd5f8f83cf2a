-- Each public function's promise allows one result and one content of a lent buffer. Assumes nothing.
use Rattle.base_lists.proofs.One.{One}
use Rattle.base_buffer.proofs.AnswerLaws.{lays_one}
use Rattle.sheet_sections.proofs.lay_count.Kinds as lay_count_kinds
use Rattle.sheet_sections.proofs.lay_count.Reads as lay_count
use Rattle.sheet_sections.proofs.lay_section.Kinds as lay_section_kinds
use Rattle.sheet_sections.proofs.lay_section.Reads as lay_section
use Rattle.sheet_sections.proofs.lay_decoded_section.Kinds as lay_decoded_section_kinds
use Rattle.sheet_sections.proofs.lay_decoded_section.Reads as lay_decoded_section

lay_count_one : One 1 lay_count_kinds.ps lay_count_kinds.r lay_count.Post (λ κs x. x) (λ κs s. s.1.0.now)
lay_count_one κs a x y s t p q = lays_one p q

lay_section_one : One 2 lay_section_kinds.ps lay_section_kinds.r lay_section.Post (λ κs x. x) (λ κs s. s.1.0.now)
lay_section_one κs a x y s t p q = lays_one p q

lay_decoded_section_one : One 2 lay_decoded_section_kinds.ps lay_decoded_section_kinds.r lay_decoded_section.Post (λ κs x. x)
    (λ κs s. s.1.0.now)
lay_decoded_section_one κs a x y s t p q = lays_one p q
