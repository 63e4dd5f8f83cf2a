-- What the field readers answer: GFF3, Columns 1 to 8; RULES 3, 11.1. A field reader refuses 1 where the bounds offered are not the line's
-- own, then gives the field's own number (2, 17, 3 or 4), then 22 where it decodes into a buffer. Assumes nothing: these are definitions.
use Rattle.std.specs.Prelude.{ℕ, cond, not, List, [], ◌∷◌, Option, None, Some, Result, Ok, Err}
use Rattle.base_words.specs.Same.{is_dot}
use Rattle.base_scan.specs.declared.place.Place.{Place}
use Rattle.base_scan.specs.Part.{text_at}
use Rattle.base_buffer.specs.Answer.{Reason, ◌when◌}
use Rattle.base_refusals.specs.declared.Refusal.{Refusal}
use Rattle.base_refusals.specs.declared.Refusal.TheVariants as refusal
use Rattle.base_refusals.specs.Refusal.{and_then}
use Rattle.read_tokens.specs.declared.strand.Strand.{Strand}
use Rattle.read_tokens.specs.declared.phase.Phase.{Phase}
use Rattle.read_tokens.specs.Tokens.{position_of, strand_of, phase_of}
use Rattle.read_score.specs.Score.{is_score}
use Rattle.read_columns.specs.declared.bounds.Bounds.{Bounds}
use Rattle.read_columns.specs.declared.column.Column.{Column}
use Rattle.read_columns.specs.declared.column.Column.TheVariants as column
use Rattle.read_columns.specs.Columns.{ends, is_own, column_at}
use Rattle.read_fields.specs.declared.record.Record.{Record}

-- ── a column's text, judged raw ──

-- GFF3, Column 6, score: `.` is missing; else the whole text is the token, which stands at a place; else 17
unfoldable pub score_of : List ℕ → Place → Result (Option Place) Refusal
score_of s place = cond (is_dot s) (Ok None) (cond (is_score s) (Ok (Some place)) (Err refusal.Score))

-- ── the readers: 1 first, then the column ──

unfoldable pub position_at : Column → List ℕ → Bounds → Result ℕ Refusal
position_at c s b = and_then (column_at c s b) (λ place. position_of (text_at place s))

unfoldable pub score_at : List ℕ → Bounds → Result (Option Place) Refusal
score_at s b = and_then (column_at column.Score s b) (λ place. score_of (text_at place s) place)

unfoldable pub strand_at : List ℕ → Bounds → Result Strand Refusal
strand_at s b = and_then (column_at column.Strand s b) (λ place. strand_of (text_at place s))

unfoldable pub phase_at : List ℕ → Bounds → Result Phase Refusal
phase_at s b = and_then (column_at column.Phase s b) (λ place. phase_of (text_at place s))

-- ── a record at once ──

-- answers one after another: the first refusal, or all of them beside the bounds
abbrev pub together : Bounds → Result ℕ Refusal → Result ℕ Refusal → Result (Option Place) Refusal → Result Strand Refusal → Result Phase Refusal → Result Record Refusal
together b start-answer end-answer score-answer strand-answer phase-answer =
    and_then start-answer (λ start.
    and_then end-answer (λ end.
    and_then score-answer (λ score.
    and_then strand-answer (λ strand.
    and_then phase-answer (λ phase.
    Ok (record { bounds = b; start = start; end = end; score = score; strand = strand; phase = phase }))))))

-- the readers by the line's bounds (RULES 3.5), in the order of RULES 11.2
unfoldable pub record_of : List ℕ → Result Record Refusal
record_of s =
    together (ends s) (position_at column.Start s (ends s)) (position_at column.End s (ends s)) (score_at s (ends s)) (strand_at s (ends s))
    (phase_at s (ends s))

-- ── texts ──

-- the texts are decoded into a buffer: 1, then 22
abbrev pub text_reasons : List ℕ → Bounds → List Reason
text_reasons s b = (refusal.Columns when not (is_own s b)) ∷ []
