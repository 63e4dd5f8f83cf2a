-- Laws of score tokens: runs of digits and their tests at a cursor, and the bytes that a token is made of. Assumes nothing.
use Prim.Native.Nat.{ℕ, zero, suc, ◌+◌, ◌≤◌, ◌<◌}
use native.Mathlib.Omega.{arith}
use native.Mathlib.Numerals.{add-one}
use mathlib.Core.Path.{◌≡◌, refl, ap, ◌∙◌}
use mathlib.Core.Logic.{◌⊎◌, inl, inr}
use mathlib.Core.Bool.{Bool, true, false, cond, not, ◌&&◌, ◌||◌, and-false}
use mathlib.Core.List.{List, [], ◌∷◌}
use lib.Dec.{eqb, ltb, leb-suc-suc, eqb-zero-suc, eqb-suc-suc}
use lib.ListN.{length, drop, get_or, drop_of_length-le}
use lib.Seq.{drop-cons, drop-drop}
use borrow.Author.Tests.{lt-ltb, le-ltb, le-leb, lt-leb, eqb-true, eq-eqb, ne_eqb}
use Rattle.base_lists.specs.Bytes.{Every, Lacks, among, sans, ascii, plus, minus, dot}
use Rattle.base_lists.proofs.BoolLaws.{and_left, and_right}
use Rattle.base_lists.proofs.EveryLaws.{every_lacks}
use Rattle.base_lists.proofs.SansLaws.{sans_every}
use Rattle.base_scan.specs.Find.{index, seek, is}
use Rattle.base_scan.proofs.FindLaws.{seek_at, seek_here, seek_next}
use Rattle.read_numbers.specs.Number.{is_digit, all_digits, some_digits}
use Rattle.read_score.specs.Score.{no_digit, digit_run, behind_run, is_sign, is_exponent, is_fraction, is_score}

-- ── runs of digits ────────────────────────────────────────────────────────────────────────────

-- a byte that is no digit ends the run, and a digit does not
module _ (at : ℕ) (s : List ℕ) (h : at < length s) where
  pub run_ends : (get_or s at 0 < 48) ⊎ (57 < get_or s at 0) → seek no_digit at s ≡ at
  run_ends (inl k) = seek_here no_digit at s h (rw (lt-leb 48 (get_or s at 0) k))
  run_ends (inr k) = seek_here no_digit at s h (rw (lt-leb (get_or s at 0) 57 k, and-false))

  pub run_goes_on : 48 ≤ get_or s at 0 → get_or s at 0 ≤ 57 → seek no_digit at s ≡ seek no_digit (at + 1) s
  run_goes_on k l = seek_next no_digit at s h (rw (le-leb 48 (get_or s at 0) k, le-leb (get_or s at 0) 57 l))

digits_all : (s : List ℕ) → all_digits s ≡ eqb (index no_digit s) (length s)
unfolding all_digits index
digits_all [] = refl
digits_all (x ∷ s) = go (is_digit x) (digits_all s)
  where
    go : (t : Bool) → all_digits s ≡ eqb (index no_digit s) (length s)
        → (t && all_digits s) ≡ eqb (cond (not t) 0 (suc (index no_digit s))) (suc (length s))
    go true e = rw eqb-suc-suc e
    go false e = rw eqb-zero-suc

-- one or more digits from a cursor on, up to the end
pub digits_some : (at : ℕ) (s : List ℕ) → some_digits (drop at s) ≡ (ltb at (length s) && eqb (seek no_digit at s) (length s))
unfolding some_digits seek
digits_some zero [] = refl
digits_some zero (x ∷ s) = rw (lt-ltb 0 (suc (length s)) (omega arith)) (digits_all (x ∷ s))
digits_some (suc at) [] = rw (le-ltb (suc at) 0 (omega arith))
digits_some (suc at) (x ∷ s) = rw (leb-suc-suc, eqb-suc-suc) (digits_some at s)

-- a run of at least one digit, and a test of what stands behind it
abbrev pub after_run : (List ℕ → Bool) → List ℕ → Bool
after_run test s = ltb 0 (digit_run s) && test (behind_run s)

module _ (test : List ℕ → Bool) (from to : ℕ) (s : List ℕ) (inside : from ≤ length s) (e : to ≡ seek no_digit from s) where
  -- where the run is empty
  pub run_none : to ≤ from → after_run test (drop from s) ≡ false
  run_none h = rw (le-ltb 0 (digit_run (drop from s)) (omega (arith, seek_at no_digit from s inside)))

  -- where it ends at `to`
  pub run_then : from < to → after_run test (drop from s) ≡ test (drop to s)
  run_then h =
      let k : from + digit_run (drop from s) ≡ to = omega (arith, seek_at no_digit from s inside) in
      rw (lt-ltb 0 (digit_run (drop from s)) (omega arith), drop-drop (digit_run (drop from s)) from s, k)

-- ── at a cursor ───────────────────────────────────────────────────────────────────────────────

-- neither of two tests, as the code asks it
neither : (a b : Bool) → (a || b) ≡ not (not a && not b)
neither true b = refl
neither false true = refl
neither false false = refl

module _ (at : ℕ) (s : List ℕ) where
  pub exponent_none : length s ≤ at → is_exponent (drop at s) ≡ true
  unfolding is_exponent
  exponent_none h = rw (drop_of_length-le s h)

  pub fraction_none : length s ≤ at → is_fraction (drop at s) ≡ true
  unfolding is_fraction
  fraction_none h = rw (drop_of_length-le s h)

  module _ (h : at < length s) where
    -- a byte that is not `e` or `E`
    pub exponent_other : (not (eqb (get_or s at 0) 101) && not (eqb (get_or s at 0) 69)) ≡ true → is_exponent (drop at s) ≡ false
    unfolding is_exponent
    exponent_other e = rw (drop-cons s at 0 h, neither (eqb (get_or s at 0) 101), e)

    -- one that is: the digits from `from` on are to be all that is left
    pub exponent_then : (from : ℕ) → (not (eqb (get_or s at 0) 101) && not (eqb (get_or s at 0) 69)) ≡ false
        → sans is_sign (drop (at + 1) s) ≡ drop from s
        → is_exponent (drop at s) ≡ (ltb from (length s) && eqb (seek no_digit from s) (length s))
    unfolding is_exponent
    exponent_then from e sign =
        rw (drop-cons s at 0 h, neither (eqb (get_or s at 0) 101), e, rw add-one at sign) (digits_some from s)

    pub fraction_other : (get_or s at 0 ≡ dot → ⊥) → is_fraction (drop at s) ≡ is_exponent (drop at s)
    unfolding is_fraction
    fraction_other e = rw (drop-cons s at 0 h, ne_eqb (get_or s at 0) dot e)

    pub fraction_dot : get_or s at 0 ≡ dot → is_fraction (drop at s) ≡ after_run is_exponent (drop (at + 1) s)
    unfolding is_fraction
    fraction_dot e = rw (drop-cons s at 0 h, eq-eqb (get_or s at 0) dot e, add-one)

-- ── the bytes of a token ──────────────────────────────────────────────────────────────────────

-- a digit, or one of `+` `-` `.` `e` `E`
abbrev pub is_score_byte : ℕ → Bool
is_score_byte x = is_digit x || among (ascii "+-.eE") x

-- a text is made of them
abbrev pub Made : List ℕ → Type 0
Made s = Every (λ x. is_score_byte x ≡ true) s

-- one of two bytes
either : (a b : ℕ) → is_score_byte a ≡ true → is_score_byte b ≡ true → (x : ℕ) → (eqb x a || eqb x b) ≡ true → is_score_byte x ≡ true
either a b p q x e = go (eqb x a) refl e
  where
    go : (t : Bool) → eqb x a ≡ t → (t || eqb x b) ≡ true → is_score_byte x ≡ true
    go true h k = ap is_score_byte (eqb-true x a h) ∙ p
    go false h k = ap is_score_byte (eqb-true x b k) ∙ q

-- a run of digits, and digits to the end
run_made : (s : List ℕ) → Made (behind_run s) → Made s
unfolding index
run_made [] h = tt
run_made (x ∷ s) h = go (is_digit x) refl (run_made s) h
  where
    go : (t : Bool) → is_digit x ≡ t → (Made (behind_run s) → Made s) → Made (drop (cond (not t) 0 (suc (digit_run s))) (x ∷ s))
        → Made (x ∷ s)
    go true e rest k = (rw e, rest k)
    go false e rest k = k

digits_made : (s : List ℕ) → all_digits s ≡ true → Made s
unfolding all_digits
digits_made [] e = tt
digits_made (x ∷ s) e = (rw (and_left (is_digit x) (all_digits s) e), digits_made s (and_right (is_digit x) (all_digits s) e))

some_made : (s : List ℕ) → some_digits s ≡ true → Made s
unfolding some_digits
some_made [] e = tt
some_made (x ∷ s) e = digits_made (x ∷ s) e

exponent_made : (s : List ℕ) → is_exponent s ≡ true → Made s
unfolding is_exponent
exponent_made [] e = tt
exponent_made (x ∷ s) e =
    let rest = some_made (sans is_sign s) (and_right (eqb x 101 || eqb x 69) (some_digits (sans is_sign s)) e) in (
      either 101 69 refl refl x (and_left (eqb x 101 || eqb x 69) (some_digits (sans is_sign s)) e),
      sans_every is_sign (λ y. is_score_byte y ≡ true) (either plus minus refl refl) s rest,
    )

after_made : (test : List ℕ → Bool) → ((s : List ℕ) → test s ≡ true → Made s) → (s : List ℕ) → after_run test s ≡ true → Made s
after_made test made s e = run_made s (made (behind_run s) (and_right (ltb 0 (digit_run s)) (test (behind_run s)) e))

fraction_made : (s : List ℕ) → is_fraction s ≡ true → Made s
unfolding is_fraction
fraction_made [] e = tt
fraction_made (x ∷ s) e = go (eqb x dot) refl e
  where
    go : (t : Bool) → eqb x dot ≡ t → cond t (after_run is_exponent s) (is_exponent (x ∷ s)) ≡ true → Made (x ∷ s)
    go true d k = (ap is_score_byte (eqb-true x dot d), after_made is_exponent exponent_made s k)
    go false d k = exponent_made (x ∷ s) k

pub score_made : (s : List ℕ) → is_score s ≡ true → Made s
unfolding is_score
score_made s e =
    sans_every (is minus) (λ x. is_score_byte x ≡ true) (λ x h. ap is_score_byte (eqb-true x minus h)) s
    (after_made is_fraction fraction_made (sans (is minus) s) e)

-- so a token lacks every other byte: tab, line feed and carriage return among them
pub score_lacks : (c : ℕ) → is_score_byte c ≡ false → (s : List ℕ) → is_score s ≡ true → Lacks c s
score_lacks c other s e = every_lacks is_score_byte c other s (score_made s e)

-- it is not empty, and not `.`
pub score_some : is_score [] ≡ false
unfolding index sans is_score
score_some = refl

pub score_no_dot : is_score (dot ∷ []) ≡ false
unfolding index sans is_score
score_no_dot = refl
