-- What a record read at once says: its answers are the readers' own. Assumes nothing.
use Prim.Native.Nat.{ℕ}
use native.Mathlib.Omega.{arith}
use mathlib.Core.Path.{◌≡◌, refl, sym, ◌∙◌}
use mathlib.Core.Bool.{Bool, true, false}
use mathlib.Core.List.{List}
use Rattle.std.specs.Prelude.{Option, Result, Ok, Err}
use Rattle.base_scan.specs.declared.place.Place.{Place}
use Rattle.base_refusals.specs.declared.Refusal.{Refusal}
use Rattle.base_refusals.specs.declared.Refusal.TheVariants as refusal
use Rattle.read_tokens.specs.declared.strand.Strand.{Strand}
use Rattle.read_tokens.specs.declared.phase.Phase.{Phase}
use Rattle.read_tokens.specs.Tokens.{position_of, strand_of, phase_of}
use Rattle.read_columns.specs.declared.bounds.Bounds.{Bounds}
use Rattle.read_columns.specs.declared.column.Column.TheVariants as column
use Rattle.read_columns.specs.Columns.{ends, has_columns, indexed, column_at, column_text, column_place}
use Rattle.read_columns.proofs.ColumnsLaws.{own_record, own_none, indexed_at, indexed_refused, indexed_reason}
use Rattle.read_fields.specs.declared.record.Record.{Record}
use Rattle.read_fields.specs.Inner.ByBounds.{fields_in}
use Rattle.read_fields.specs.Fields.{position_at, score_of, score_at, strand_at, phase_at, together, record_of}

-- ── by whether the line has its columns ───────────────────────────────────────────────────────

pub record_none : (s : List ℕ) → has_columns s ≡ false → record_of s ≡ Err refusal.Columns
unfolding record_of position_at column_at
record_none s e = rw (own_none s (ends s) e)

pub record_some : (s : List ℕ) → has_columns s ≡ true
    → record_of s
    ≡ together (ends s) (position_of (column_text column.Start s)) (position_of (column_text column.End s))
    (score_of (column_text column.Score s) (column_place column.Score s)) (strand_of (column_text column.Strand s))
    (phase_of (column_text column.Phase s))
unfolding record_of position_at score_at strand_at phase_at column_at
record_some s e = rw (own_record s e)

-- ── by what its index answers ─────────────────────────────────────────────────────────────────

pub index_refused : (s : List ℕ) {r : Refusal} → indexed s ≡ Err r → Err r ≡ record_of s
index_refused s e = rw (indexed_reason s e) (sym (record_none s (indexed_refused s e)))

pub index_told : (s : List ℕ) {b : Bounds} → indexed s ≡ Ok b → fields_in s ≡ record_of s
index_told s e = sym (record_some s (indexed_at s e).0)

pub index_ends : (s : List ℕ) {b : Bounds} → indexed s ≡ Ok b → b ≡ ends s
index_ends s e = (indexed_at s e).1

pub ruleset records_told = (index_refused, index_told, index_ends)

-- ── what an answer says ───────────────────────────────────────────────────────────────────────

-- where none of five answers is a refusal, the record has each of them
pub record Together (b : Bounds) (p q : Result ℕ Refusal) (c : Result (Option Place) Refusal) (t : Result Strand Refusal) (f : Result Phase Refusal)
    (r : Record) : Type 0 where
  pub bounds_are : r.bounds ≡ b
  pub start_is : p ≡ Ok r.start
  pub end_is : q ≡ Ok r.end
  pub score_is : c ≡ Ok r.score
  pub strand_is : t ≡ Ok r.strand
  pub phase_is : f ≡ Ok r.phase

no : {n : Refusal} {r : Record} → ◌≡◌ {A = Result Record Refusal} (Err n) (Ok r) → ⊥
no e = let z : ◌≡◌ {A = ℕ} 0 1 = cc in omega arith

one : {a r : Record} → ◌≡◌ {A = Result Record Refusal} (Ok a) (Ok r) → a ≡ r
one e = cc

pub together_is : (b : Bounds) (p q : Result ℕ Refusal) (c : Result (Option Place) Refusal) (t : Result Strand Refusal) (f : Result Phase Refusal)
    {r : Record} → together b p q c t f ≡ Ok r → Together b p q c t f r
together_is b (Err n) q c t f e = absurd (no e)
together_is b (Ok x) (Err n) c t f e = absurd (no e)
together_is b (Ok x) (Ok y) (Err n) t f e = absurd (no e)
together_is b (Ok x) (Ok y) (Ok c) (Err n) f e = absurd (no e)
together_is b (Ok x) (Ok y) (Ok c) (Ok t) (Err n) e = absurd (no e)
together_is b (Ok x) (Ok y) (Ok c) (Ok t) (Ok f) e =
    rw (← one e) (record { bounds_are = refl; start_is = refl; end_is = refl; score_is = refl; strand_is = refl; phase_is = refl })

pub record Told (s : List ℕ) (r : Record) : Type 0 where
  -- the bounds are those of `index`
  pub indexed_is : indexed s ≡ Ok r.bounds
  -- and by them each reader answers the same
  pub start_is : position_at column.Start s r.bounds ≡ Ok r.start
  pub end_is : position_at column.End s r.bounds ≡ Ok r.end
  pub score_is : score_at s r.bounds ≡ Ok r.score
  pub strand_is : strand_at s r.bounds ≡ Ok r.strand
  pub phase_is : phase_at s r.bounds ≡ Ok r.phase

-- a line without its columns is no record
record_columns : (s : List ℕ) {r : Record} → record_of s ≡ Ok r → has_columns s ≡ true
record_columns s {r} e = go (has_columns s) refl
  where
    go : (t : Bool) → has_columns s ≡ t → t ≡ true
    go true h = refl
    go false h = absurd (no (sym (record_none s h) ∙ e))

pub told : (s : List ℕ) {r : Record} → record_of s ≡ Ok r → Told s r
unfolding record_of indexed
told s {r} e =
    let b = ends s in
    let t = together_is b (position_at column.Start s b) (position_at column.End s b) (score_at s b) (strand_at s b) (phase_at s b) e in
    record {
      indexed_is = rw (record_columns s e, t.bounds_are);
      start_is = rw t.bounds_are t.start_is;
      end_is = rw t.bounds_are t.end_is;
      score_is = rw t.bounds_are t.score_is;
      strand_is = rw t.bounds_are t.strand_is;
      phase_is = rw t.bounds_are t.phase_is;
    }
