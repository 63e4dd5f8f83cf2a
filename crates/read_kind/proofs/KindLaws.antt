-- Laws of `kind`, and what a comment or a directive of given texts reads back as. Assumes nothing.
use Prim.Native.Nat.{ℕ, suc, ◌+◌, ◌-◌, ◌<◌}
use native.Mathlib.Omega.{arith}
use mathlib.Core.Path.{◌≡◌, refl}
use mathlib.Core.Logic.{◌≢◌}
use mathlib.Core.Bool.{false, cond}
use Rattle.std.specs.Prelude.{Option, None, Some}
use mathlib.Core.List.{List, [], ◌∷◌, ◌++◌, append-nil}
use lib.Dec.{eqb}
use lib.ListN.{length, drop, get_or, length-append, get_or-eq_default}
use lib.Seq.{take_at, take_all, drop-append-add}
use borrow.Author.Tests.{eq-eqb, ne_eqb}
use Rattle.base_lists.specs.Bytes.{Every}
use Rattle.base_scan.specs.Find.{index, seek}
use Rattle.base_words.specs.Word.{is_space, space}
use Rattle.base_scan.proofs.FindLaws.{index_append}
use Rattle.read_kind.specs.declared.kind.Kind.TheVariants.{Directive, Comment, Record}
use Rattle.read_kind.specs.Kind.{kind, comment_of, directive_of, value_behind}
use Rattle.read_kind.specs.Reading.{ReadsComment, value_read, ReadsDirective}

-- ── the kind ──────────────────────────────────────────────────────────────────────────────────

-- by the first two bytes, where a byte that is missing counts as 0
pub kind_by : (s : List ℕ) → kind s ≡ cond (eqb (get_or s 0 0) 35) (cond (eqb (get_or s 1 0) 35) Directive Comment) Record
unfolding kind
kind_by [] = refl
kind_by (x ∷ []) = refl
kind_by (x ∷ y ∷ s) = refl

-- the kind by what a match on the line tells of its bytes
pub at_directive : (s : List ℕ) → get_or s 0 0 ≡ 35 → get_or s 1 0 ≡ 35 → Directive ≡ kind s
at_directive s h g = rw (kind_by s, eq-eqb (get_or s 0 0) 35 h, eq-eqb (get_or s 1 0) 35 g)

pub at_comment : (s : List ℕ) → get_or s 0 0 ≡ 35 → get_or s 1 0 ≢ 35 → Comment ≡ kind s
at_comment s h g = rw (kind_by s, eq-eqb (get_or s 0 0) 35 h, ne_eqb (get_or s 1 0) 35 g)

pub at_record : (s : List ℕ) → get_or s 0 0 ≢ 35 → Record ≡ kind s
at_record s h = rw (kind_by s, ne_eqb (get_or s 0 0) 35 h)

-- a line of one byte, and the empty one
pub at_hash : (s : List ℕ) → length s < 2 → get_or s 0 0 ≡ 35 → Comment ≡ kind s
at_hash s l h = at_comment s h (omega (arith, get_or-eq_default s 0 {n = 1} (omega arith)))

pub at_end : (s : List ℕ) → length s < 1 → Record ≡ kind s
at_end s l = at_record s (omega (arith, get_or-eq_default s 0 {n = 0} (omega arith)))

pub ruleset kinds_told = (at_directive, at_comment, at_hash, at_record, at_end)

pub kind_directive : (s : List ℕ) → kind (35 ∷ 35 ∷ s) ≡ Directive
kind_directive s = kind_by (35 ∷ 35 ∷ s)

-- behind one `#` no other `#`, or nothing
pub kind_comment : (s : List ℕ) → get_or s 0 0 ≢ 35 → kind (35 ∷ s) ≡ Comment
kind_comment s h = rw (kind_by (35 ∷ s), ne_eqb (get_or s 0 0) 35 h)

-- no `#` at the start, or nothing
pub kind_record : (s : List ℕ) → get_or s 0 0 ≢ 35 → kind s ≡ Record
kind_record s h = rw (kind_by s, ne_eqb (get_or s 0 0) 35 h)

-- ── a comment ─────────────────────────────────────────────────────────────────────────────────

pub comment_reads : (s : List ℕ) → get_or s 0 0 ≢ 35 → ReadsComment (35 ∷ s) s
unfolding comment_of
comment_reads s h =
    record {
      place = record { start = 1; end = length (35 ∷ s) };
      answer = rw (kind_comment s h);
      reads = take_all (length (35 ∷ s) - 1) s (omega arith);
    }

-- ── a directive ───────────────────────────────────────────────────────────────────────────────

module _ (key : List ℕ) (inked : Every (λ x. is_space x ≡ false) key) where
  -- a key without white space runs to white space, or to the end
  key_reads : (s : List ℕ) (text : Option (List ℕ)) → index is_space s ≡ 0
      → value_read (35 ∷ 35 ∷ (key ++ s)) (value_behind (35 ∷ 35 ∷ (key ++ s)) (2 + length key)) ≡ text
      → ReadsDirective (35 ∷ 35 ∷ (key ++ s)) key text
  unfolding directive_of seek
  key_reads s text e v =
      let k : space 2 (35 ∷ 35 ∷ (key ++ s)) ≡ 2 + length key = omega (arith, index_append is_space key s inked) in
      record {
        key_place = record { start = 2; end = 2 + length key };
        value = value_behind (35 ∷ 35 ∷ (key ++ s)) (2 + length key);
        answer = rw (kind_directive (key ++ s), k);
        reads_key = take_at key s (2 + length key - 2) (omega arith);
        reads_value = v;
      }

  pub directive_reads_alone : ReadsDirective (35 ∷ 35 ∷ key) key None
  unfolding index
  directive_reads_alone =
      rw append-nil at
      (key_reads [] None refl (rw (eq-eqb (2 + length key) (length (35 ∷ 35 ∷ (key ++ []))) (omega (arith, length-append key [])))))

  pub directive_reads : (text : List ℕ) → ReadsDirective (35 ∷ 35 ∷ (key ++ 32 ∷ text)) key (Some text)
  unfolding index is_space
  directive_reads text =
      let line : List ℕ = 35 ∷ 35 ∷ (key ++ 32 ∷ text) in
      let l = length-append key (32 ∷ text) in
      let n : 2 + length key + 1 ≡ suc (suc (length key + 1)) = omega arith in
      let d : drop (2 + length key + 1) line ≡ text = rw n (drop-append-add key (32 ∷ text) 1) in
      key_reads (32 ∷ text) (Some text) refl
      (rw (ne_eqb (2 + length key) (length line) (omega arith), d, take_all (length line - (2 + length key + 1)) text (omega arith)))
