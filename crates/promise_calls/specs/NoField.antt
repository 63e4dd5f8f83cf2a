-- A refused call hands out no field. In the structs that C gets (RULES 16.4) every other number is 0 where `refused` is not, but for
-- `length` with 22, which is the length needed, the cursor `next` of the walk over column 9, and what carries a text in parts on: the bytes
-- taken with 25, and the state. Where an answer says that a walk is done, or that something is missing, absent or not of the kind, the
-- numbers that would hold it are 0. Assumes nothing: these are definitions.
use Rattle.std.specs.Prelude.{ℕ, ◌≡◌, ◌≢◌, Result, List, [], ◌∷◌}
use Rattle.base_lists.specs.Bytes.{Every}
use Rattle.c_answers.specs.declared.Gff3Bounds.{Gff3Bounds}
use Rattle.c_answers.specs.Answers.{c_position, c_written}
use Rattle.c_lines.specs.Line.{c_line, c_comment, c_directive}
use Rattle.base_refusals.specs.declared.Refusal.{Refusal}
use Rattle.read_parts.specs.declared.Part.{Part}
use Rattle.c_parts.specs.declared.Gff3State.{Gff3State}
use Rattle.c_parts.specs.Part.{c_part}
use Rattle.c_directives.specs.Directive.{c_version, c_region, c_build}
use Rattle.c_index.specs.Index.{c_indexed}
use Rattle.c_columns.specs.Columns.{c_place}
use Rattle.c_record.specs.Record.{c_record}
use Rattle.c_score.specs.Score.{c_score}
use Rattle.c_strand.specs.Strand.{c_strand}
use Rattle.c_phase.specs.Phase.{c_phase}
use Rattle.c_attributes.specs.Attribute.{c_field, c_value}
use Rattle.c_lookup.specs.Lookup.{c_found}
use Rattle.c_unfold.specs.Sheet.{c_judged, c_unfolded}
use Rattle.read_report.specs.Report.{morning}
use Rattle.c_report.specs.declared.Gff3Morning.{Gff3Morning}
use Rattle.c_report.specs.Report.{c_morning}

-- each of them is 0
abbrev pub Zeros : List ℕ → Type 0
Zeros = Every (λ n. n ≡ 0)

-- of every answer of the library, as C gets it: where it says that there is nothing to hand out, these of its numbers are 0
abbrev pub Bare : {A B : Type 0} → (A → B) → (B → Type 0) → (B → List ℕ) → Type 0
Bare {A} in_c nothing numbers = (answer : A) → nothing (in_c answer) → Zeros (numbers (in_c answer))

-- all eight ends
abbrev pub ends_in : Gff3Bounds → List ℕ
ends_in b =
    b.reference_sequence_name_end ∷ b.source_end ∷ b.type_end ∷ b.start_end ∷ b.end_end ∷ b.score_end ∷ b.strand_end
    ∷ b.phase_end ∷ []

-- all that a report counts
abbrev pub counts : Gff3Morning → List ℕ
counts r =
    r.records ∷ r.directives ∷ r.comments ∷ r.reversed ∷ r.sum ∷ r.refused_too_long ∷ r.refused_columns ∷ r.refused_position
    ∷ r.refused_score ∷ r.refused_strand ∷ r.refused_phase ∷ r.refused_attribute ∷ r.lengths

pub record NoField : Type 0 where
  -- refused
  pub position : Bare c_position (λ r. r.refused ≢ 0) (λ r. r.value ∷ [])
  pub strand : Bare c_strand (λ r. r.refused ≢ 0) (λ r. r.value ∷ [])
  pub phase : Bare c_phase (λ r. r.refused ≢ 0) (λ r. r.value ∷ [])
  pub score : Bare c_score (λ r. r.refused ≢ 0) (λ r. r.missing ∷ r.start ∷ r.end ∷ [])
  pub index : Bare c_indexed (λ r. r.refused ≢ 0) (λ r. ends_in r.bounds)
  pub place : Bare c_place (λ r. r.refused ≢ 0) (λ r. r.start ∷ r.end ∷ [])
  pub whole : Bare c_record (λ r. r.refused ≢ 0)
      (λ r. r.start ∷ r.end ∷ r.score_missing ∷ r.score_start ∷ r.score_end ∷ r.strand ∷ r.phase ∷ ends_in r.bounds)
  pub field : (here : ℕ) → Bare (c_field here) (λ r. r.refused ≢ 0)
      (λ r. r.done ∷ r.tag_start ∷ r.tag_end ∷ r.value_start ∷ r.value_end ∷ [])
  pub found : Bare c_found (λ r. r.refused ≢ 0) (λ r. r.found ∷ r.start ∷ r.end ∷ [])
  pub part : (was : Gff3State) → Bare (c_part was) (λ r. r.refused ≢ 0) (λ r. r.has_line ∷ r.length ∷ [])
  pub part_taken : (was : Gff3State) → Bare (c_part was) (λ r. (r.refused ≢ 0) × (r.refused ≢ 25)) (λ r. r.taken ∷ [])
  -- and the state is the one handed in
  pub part_state : (was : Gff3State) (answer : Result Part Refusal) → (c_part was answer).refused ≢ 0 → (c_part was answer).refused ≢ 25
      → (c_part was answer).state ≡ was
  pub version : Bare c_version (λ r. r.refused ≢ 0) (λ r. r.parts ∷ r.major ∷ r.minor ∷ r.patch ∷ [])
  pub region : Bare c_region (λ r. r.refused ≢ 0) (λ r. r.name_start ∷ r.name_end ∷ r.start ∷ r.end ∷ [])
  pub build : Bare c_build (λ r. r.refused ≢ 0) (λ r. r.source_start ∷ r.source_end ∷ r.name_start ∷ r.name_end ∷ [])
  pub judged : Bare c_judged (λ r. r.refused ≢ 0) (λ r. r.length ∷ r.start ∷ r.end ∷ r.strand ∷ r.phase ∷ [])
  pub unfolded : Bare c_unfolded (λ r. r.refused ≢ 0) (λ r. r.start ∷ r.end ∷ r.strand ∷ r.phase ∷ [])
  pub unfolded_length : Bare c_unfolded (λ r. (r.refused ≢ 0) × (r.refused ≢ 22)) (λ r. r.length ∷ [])
  pub report : Bare (λ text. c_morning (morning text)) (λ r. r.refused ≢ 0) counts
  pub written_length : Bare c_written (λ r. (r.refused ≢ 0) × (r.refused ≢ 22)) (λ r. r.length ∷ [])
  -- done
  pub line_done : (here : ℕ) → Bare (c_line here) (λ r. r.done ≢ 0) (λ r. r.start ∷ r.end ∷ [])
  pub field_done : (here : ℕ) → Bare (c_field here) (λ r. r.done ≢ 0)
      (λ r. r.refused ∷ r.tag_start ∷ r.tag_end ∷ r.value_start ∷ r.value_end ∷ [])
  pub value_done : (here : ℕ) → Bare (c_value here) (λ r. r.done ≢ 0) (λ r. r.start ∷ r.end ∷ [])
  -- missing, absent, not one
  pub score_missing : Bare c_score (λ r. r.missing ≢ 0) (λ r. r.start ∷ r.end ∷ [])
  pub whole_score_missing : Bare c_record (λ r. r.score_missing ≢ 0) (λ r. r.score_start ∷ r.score_end ∷ [])
  pub tag_absent : Bare c_found (λ r. r.found ≡ 0) (λ r. r.start ∷ r.end ∷ [])
  pub minor_absent : Bare c_version (λ r. r.parts ≡ 1) (λ r. r.minor ∷ r.patch ∷ [])
  pub patch_absent : Bare c_version (λ r. r.parts ≡ 2) (λ r. r.patch ∷ [])
  pub value_absent : Bare c_directive (λ r. r.has_value ≡ 0) (λ r. r.value_start ∷ r.value_end ∷ [])
  pub no_line : (was : Gff3State) → Bare (c_part was) (λ r. r.has_line ≡ 0) (λ r. r.length ∷ [])
  pub no_comment : Bare c_comment (λ r. r.is ≡ 0) (λ r. r.start ∷ r.end ∷ [])
  pub no_directive : Bare c_directive (λ r. r.is ≡ 0)
      (λ r. r.key_start ∷ r.key_end ∷ r.has_value ∷ r.value_start ∷ r.value_end ∷ [])
