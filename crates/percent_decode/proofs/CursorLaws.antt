-- Decoding from a cursor on. Assumes nothing.
use Prim.Native.Nat.{ℕ, ◌+◌, ◌-◌, ◌*◌, ◌≤◌, ◌<◌}
use native.Mathlib.Omega.{arith}
use mathlib.Core.Path.{◌≡◌, refl, sym, ap, ◌∙◌}
use mathlib.Core.Logic.{◌≢◌}
use mathlib.Core.Bool.{Bool, true, false, cond, ◌&&◌}
use mathlib.Core.List.{List, [], ◌∷◌, ◌++◌}
use lib.Dec.{eqb, ltb}
use borrow.Author.Tests.{ltb-true, ne_eqb}
use lib.ListN.{length, take, drop, get_or, length-drop, drop_of_length-le, take-append-drop, length-append}
use lib.Seq.{drop-drop}
use Rattle.base_lists.proofs.BoolLaws.{and_left, and_right}
use Rattle.base_lists.proofs.CursorLaws.{cons_at}
use Rattle.base_scan.specs.Find.{index, is, found}
use Rattle.base_scan.specs.Part.{part}
use Rattle.base_scan.proofs.FindLaws.{lacks_before, seek_at, seek_ge, seek_le, seek_next}
use Rattle.base_scan.proofs.PartLaws.{part_found, length_part}
use Rattle.percent_coding.specs.Percent.{hex_value, decoded}
use Rattle.percent_decode.specs.Inner.Unit.{Hex, Decodes}
use Rattle.percent_coding.proofs.PercentLaws.{decoded_plain, decoded_begin}

-- a run: from a byte that is no percent sign up to p, where the next percent sign is, or the end
module _ (at p : ℕ) (s : List ℕ) (inside : at < length s) (plain : get_or s at 0 ≢ 37) (f : p ≡ found 37 (at + 1) s) where
  -- it has a byte
  pub run_further : at < p
  run_further = omega (arith, seek_ge (is 37) (at + 1) s (omega arith))

  -- it stands for itself
  pub decoded_run : decoded (drop at s) ≡ part at p s ++ decoded (drop p s)
  decoded_run =
      let k = index (is 37) (drop at s) in
      let g : p ≡ found 37 at s = f ∙ sym (seek_next (is 37) at s inside (ne_eqb _ 37 plain)) in
      let h : at ≤ length s = omega arith in
      let e : at + k ≡ p = omega (arith, seek_at (is 37) at s h) in
      ap decoded (sym (take-append-drop k (drop at s)))
      ∙ decoded_begin (take k (drop at s)) (drop k (drop at s)) (lacks_before 37 (drop at s))
      ∙ rw (drop-drop, e, g, part_found 37 at s h)

  -- and is as long
  pub length_run : (at < p) × (length (decoded (drop at s)) + at ≡ p + length (decoded (drop p s)))
  length_run =
      let l = length_part at p s (omega (arith, seek_le (is 37) (at + 1) s)) in
      (run_further, rw (decoded_run, length-append) (omega (arith, run_further)))

pub decoded_end : (s : List ℕ) (i : ℕ) → length s ≤ i → decoded (drop i s) ≡ []
unfolding decoded
decoded_end s i h = rw (drop_of_length-le s h)

-- ── one unit ──────────────────────────────────────────────────────────────────────────────────

-- the test of an escape, by digits and by their values
escape_test : (a t u : Bool) (v w hi lo : ℕ) (l m : List ℕ) → ltb hi 16 ≡ t → ltb lo 16 ≡ u → hi ≡ cond t v 16 → lo ≡ cond u w 16
    → cond (a && t && u) ((v * 16 + w) ∷ l) m ≡ cond (a && ltb hi 16 && ltb lo 16) ((hi * 16 + lo) ∷ l) m
escape_test false t u v w hi lo l m p q e f = refl
escape_test true false u v w hi lo l m p q e f = rw p
escape_test true true false v w hi lo l m p q e f = rw (p, q)
escape_test true true true v w hi lo l m p q e f = rw (p, q, e, f)

-- three bytes at a cursor
pub decoded_three : (s : List ℕ) (i hi lo : ℕ) → i + 2 < length s → Hex (get_or s (i + 1) 0) hi → Hex (get_or s (i + 2) 0) lo
    → decoded (drop i s)
    ≡ cond (eqb (get_or s i 0) 37 && ltb hi 16 && ltb lo 16)
    ((hi * 16 + lo) ∷ decoded (drop (i + 3) s))
    (get_or s i 0 ∷ decoded (drop (i + 1) s))
unfolding decoded
decoded_three s i hi lo h y z =
    let y_value = hex_value (get_or s (i + 1) 0) in
    let z_value = hex_value (get_or s (i + 2) 0) in
    rw (
      cons_at s i (i + 1) (omega arith) (omega arith),
      cons_at s (i + 1) (i + 2) (omega arith) (omega arith),
      cons_at s (i + 2) (i + 3) (omega arith) (omega arith),
    ) (escape_test (eqb (get_or s i 0) 37) _ _ y_value z_value hi lo _ _ y.digit z.digit y.value z.value)

pub digits_small : (hi lo : ℕ) → (ltb hi 16 && ltb lo 16) ≡ true → (hi < 16) × (lo < 16)
digits_small hi lo e =
    (ltb-true hi 16 (and_left (ltb hi 16) (ltb lo 16) e), ltb-true lo 16 (and_right (ltb hi 16) (ltb lo 16) e))

-- fewer than three are left
decoded_few : (x : ℕ) (t : List ℕ) → length t ≤ 1 → decoded (x ∷ t) ≡ x ∷ decoded t
unfolding decoded
decoded_few x [] h = refl
decoded_few x (y ∷ []) h = refl
decoded_few x (y ∷ z ∷ t) h = absurd (omega arith)

pub decoded_short : (s : List ℕ) (i : ℕ) → i < length s → length s - i < 3 → decoded (drop i s) ≡ get_or s i 0 ∷ decoded (drop (i + 1) s)
decoded_short s i h l =
    rw (cons_at s i (i + 1) h (omega arith)) (decoded_few (get_or s i 0) (drop (i + 1) s) (simp length-drop (omega arith)))

-- no percent sign
pub decoded_other : (s : List ℕ) (i : ℕ) → i < length s → get_or s i 0 ≢ 37 → decoded (drop i s) ≡ get_or s i 0 ∷ decoded (drop (i + 1) s)
decoded_other s i h n = rw (cons_at s i (i + 1) h (omega arith)) (decoded_plain (get_or s i 0) (drop (i + 1) s) n)

-- a byte that stands for itself
pub stays : (s : List ℕ) (i : ℕ) → i < length s → decoded (drop i s) ≡ get_or s i 0 ∷ decoded (drop (i + 1) s)
    → Decodes s i (get_or s i 0) (i + 1)
stays s i h e = record { first = e; further = omega arith; inside = omega arith }
