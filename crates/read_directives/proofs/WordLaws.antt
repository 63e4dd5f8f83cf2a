-- Laws of words in a text: what `word_then` comes to, and where the next word stands. Assumes nothing.
use Rattle.std.specs.Prelude.{Bool, true, cond, eqb, Option, None, Some, Result, Ok, Err, ok_or}
use Prim.Native.Nat.{ℕ, ◌+◌, ◌-◌, ◌<◌}
use native.Mathlib.Omega.{arith}
use mathlib.Core.Path.{◌≡◌, refl, sym, ap, ◌∙◌}
use mathlib.Core.Logic.{◌≢◌}
use mathlib.Core.Bool.{false}
use mathlib.Core.List.{List, [], ◌∷◌, ◌++◌, append-nil}
use lib.ListN.{length, drop, length-append}
use lib.Seq.{drop_at, drop-drop, drop-append_seam, take_at}
use borrow.Author.Tests.{ne_eqb}
use Rattle.base_lists.specs.Bytes.{Every, sp}
use Rattle.base_refusals.specs.declared.Refusal.{Refusal}
use Rattle.base_scan.specs.declared.place.Place.{Place}
use Rattle.base_scan.specs.Find.{index}
use Rattle.base_scan.specs.Part.{text_at}
use Rattle.base_words.specs.Word.{is_space, is_ink, space, ink, word}
use Rattle.base_scan.proofs.FindLaws.{index_append, seek_at}
use Rattle.write_decimals.specs.Decimal.{decimal}
use Rattle.write_decimals.proofs.DecimalLaws.{decimal_fails}
use Rattle.read_numbers.specs.Number.{number_then}
use Rattle.read_directives.specs.Then.{word_then}

-- ── what `word_then` comes to ──────────────────────────────────────────────────────────────────

module _ {A : Type 0} (r : Refusal) (s : List ℕ) (at : ℕ) (f : Place → Result A Refusal) {v : Result Place Refusal}
    (is : v ≡ word_then (Err r) s at (λ word. Ok word)) where
  -- no word is left
  pub word_none : {e : Refusal} → v ≡ Err e → Err e ≡ word_then (Err r) s at f
  unfolding word_then
  word_none {e} k = go (eqb (word s at).start (length s)) (sym is ∙ k)
    where
      go : (b : Bool) → cond b (Err r) (Ok (word s at)) ≡ Err e → Err e ≡ cond b (Err r) (f (word s at))
      go true g = cc
      go false g = cc

  -- a word
  pub word_some : {place : Place} → v ≡ Ok place → f place ≡ word_then (Err r) s at f
  unfolding word_then
  word_some {place} k = go (eqb (word s at).start (length s)) (sym is ∙ k)
    where
      go : (b : Bool) → cond b (Err r) (Ok (word s at)) ≡ Ok place → f place ≡ cond b (Err r) (f (word s at))
      go true g = cc
      go false g = cc

-- what a number that is asked for comes to
pub number_some : {A : Type 0} (o : Option ℕ) (r : Refusal) (f : ℕ → Result A Refusal) {n : ℕ}
    → ok_or o r ≡ Ok n → f n ≡ number_then (Err r) o f
number_some (Some m) r f e = cc
number_some None r f e = cc

pub number_none : {A : Type 0} (o : Option ℕ) (r : Refusal) (f : ℕ → Result A Refusal) {e : Refusal}
    → ok_or o r ≡ Err e → Err e ≡ number_then (Err r) o f
number_none (Some m) r f e = cc
number_none None r f e = cc

-- ── the next word ─────────────────────────────────────────────────────────────────────────────

-- from a cursor on the next word is w, at a place
pub record Next (s : List ℕ) (at : ℕ) (w : List ℕ) (place : Place) : Type 0 where
  pub is : place ≡ word s at
  pub some : place.start ≢ length s
  pub reads : text_at place s ≡ w

pub next_then : {A : Type 0} (refused : A) (f : Place → A) {s : List ℕ} {at : ℕ} {w : List ℕ} {place : Place} {r : A}
    → Next s at w place → r ≡ f place → r ≡ word_then refused s at f
unfolding word_then
next_then refused f {s} {at} n e =
    rw (ne_eqb (word s at).start (length s) (λ g. n.some (ap (λ (p : Place). p.start) n.is ∙ g))) (e ∙ ap f n.is)

-- a word begins where it is looked for
ink_first : (w rest : List ℕ) → Every (λ x. is_space x ≡ false) w → 0 < length w → index is_ink (w ++ rest) ≡ 0
unfolding index
ink_first [] rest inked some = absurd (omega arith)
ink_first (x ∷ w) rest inked some = rw inked.0

-- behind a: white space or none, and a word that runs to white space or to the end
module _ (a gap w rest : List ℕ) (white : Every (λ x. is_ink x ≡ false) gap) (inked : Every (λ x. is_space x ≡ false) w)
    (some : 0 < length w) (ends : index is_space rest ≡ 0) where
  pub word_next : (at : ℕ) (place : Place) → at ≡ length a → place.start ≡ at + length gap → place.end ≡ place.start + length w
      → Next (a ++ (gap ++ (w ++ rest))) at w place
  word_next at place e b f =
      let s : List ℕ = a ++ (gap ++ (w ++ rest)) in
      let l : length s ≡ length a + (length gap + (length w + length rest)) = simp length-append in
      let d : drop at s ≡ gap ++ (w ++ rest) = drop_at a (gap ++ (w ++ rest)) at (sym e) in
      let k : drop place.start s ≡ w ++ rest = rw (b, ← drop-drop (length gap) at s, d) (drop-append_seam gap (w ++ rest)) in
      let i : place.start ≡ ink at s = omega (
        arith,
        seek_at is_ink at s (omega arith),
        ap (index is_ink) d,
        index_append is_ink gap (w ++ rest) white,
        ink_first w rest inked some,
      ) in
      let j : place.end ≡ space place.start s = omega (
        arith,
        seek_at is_space place.start s (omega arith),
        ap (index is_space) k,
        index_append is_space w rest inked,
      ) in
      record {
        is = rw (← i, ← j);
        some = λ g. omega arith;
        reads = rw k (take_at w rest (place.end - place.start) (omega arith));
      }

-- the first word of a text; the next one behind one space; and the last one
module _ (w : List ℕ) (inked : Every (λ x. is_space x ≡ false) w) (some : 0 < length w) where
  pub word_first : (rest : List ℕ) → index is_space rest ≡ 0 → Next (w ++ rest) 0 w (record { start = 0; end = length w })
  word_first rest ends = word_next [] [] w rest tt inked some ends 0 _ refl (omega arith) (omega arith)

  module _ (a : List ℕ) (at : ℕ) (l : at ≡ length a) where
    pub word_behind : (rest : List ℕ) → index is_space rest ≡ 0
        → Next (a ++ sp ∷ (w ++ rest)) at w (record { start = at + 1; end = at + 1 + length w })
    unfolding is_space
    word_behind rest ends = word_next a (sp ∷ []) w rest (refl, tt) inked some ends at _ l refl refl

    pub word_last : Next (a ++ sp ∷ w) at w (record { start = at + 1; end = at + 1 + length w })
    unfolding index
    word_last = rw append-nil at (word_behind [] refl)

-- ── digits are no white space ─────────────────────────────────────────────────────────────────

pub decimal_inked : (n : ℕ) → Every (λ x. is_space x ≡ false) (decimal n)
unfolding is_space
decimal_inked =
    decimal_fails is_space
    (λ x h g. rw (
      ne_eqb x 32 (λ e. omega arith),
      ne_eqb x 9 (λ e. omega arith),
      ne_eqb x 10 (λ e. omega arith),
      ne_eqb x 12 (λ e. omega arith),
      ne_eqb x 13 (λ e. omega arith),
    ))
