-- What a field's own text is read as: RULES 4. A text that is none is refused by the field's own number: 2 for a position, 3 for a strand,
-- 4 for a phase. Assumes nothing: these are definitions.
use Rattle.std.specs.Prelude.{ℕ, cond, List, [], ◌∷◌, eqb, Result, Ok, Err, ok_or}
use Rattle.base_lists.specs.Bytes.{plus, minus, dot, question}
use Rattle.base_refusals.specs.declared.Refusal.{Refusal}
use Rattle.base_refusals.specs.declared.Refusal.TheVariants as refusal
use Rattle.read_numbers.specs.Number.{position}
use Rattle.read_tokens.specs.declared.strand.Strand.{Strand}
use Rattle.read_tokens.specs.declared.strand.Strand.TheVariants as strand
use Rattle.read_tokens.specs.declared.phase.Phase.{Phase}
use Rattle.read_tokens.specs.declared.phase.Phase.TheVariants as phase

-- ── the numbers of strands and phases (RULES 4.3, 4.4) ──

-- strand 0 to 3 for `.` `+` `-` `?`
unfoldable pub strand_number : Strand → ℕ
strand_number strand.None = 0
strand_number strand.Forward = 1
strand_number strand.Reverse = 2
strand_number strand.Unknown = 3

-- phase 0 to 2, and 3 for none
unfoldable pub phase_number : Phase → ℕ
phase_number phase.Zero = 0
phase_number phase.One = 1
phase_number phase.Two = 2
phase_number phase.None = 3

-- ── a column's text, judged raw ──

-- GFF3, Columns 4 and 5, start and end: a position, else 2
unfoldable pub position_of : List ℕ → Result ℕ Refusal
position_of s = ok_or (position s) refusal.Position

-- GFF3, Column 7, strand: `.` `+` `-` `?`, else 3
abbrev pub strand_of_byte : ℕ → Result Strand Refusal
strand_of_byte x =
    cond (eqb x dot) (Ok strand.None)
    (cond (eqb x plus) (Ok strand.Forward)
    (cond (eqb x minus) (Ok strand.Reverse) (cond (eqb x question) (Ok strand.Unknown) (Err refusal.Strand))))

unfoldable pub strand_of : List ℕ → Result Strand Refusal
strand_of [] = Err refusal.Strand
strand_of (x ∷ []) = strand_of_byte x
strand_of (x ∷ y ∷ s) = Err refusal.Strand

-- the byte that is written for a strand's number, 0 to 3 for `.` `+` `-` `?`
abbrev pub strand_byte : ℕ → ℕ
strand_byte n = cond (eqb n 0) dot (cond (eqb n 1) plus (cond (eqb n 2) minus question))

-- GFF3, Column 8, phase: `.` `0` `1` `2`, else 4
abbrev pub phase_of_byte : ℕ → Result Phase Refusal
phase_of_byte x =
    cond (eqb x dot) (Ok phase.None)
    (cond (eqb x 48) (Ok phase.Zero) (cond (eqb x 49) (Ok phase.One) (cond (eqb x 50) (Ok phase.Two) (Err refusal.Phase))))

unfoldable pub phase_of : List ℕ → Result Phase Refusal
phase_of [] = Err refusal.Phase
phase_of (x ∷ []) = phase_of_byte x
phase_of (x ∷ y ∷ s) = Err refusal.Phase

-- the byte that is written for a phase's number, 0 to 2 as digits, and `.` for none
abbrev pub phase_byte : ℕ → ℕ
phase_byte n = cond (eqb n 0) 48 (cond (eqb n 1) 49 (cond (eqb n 2) 50 dot))
