-- Laws of versions: a part, then a dot or the end; and what a version of given numbers reads back as. Assumes nothing.
use Rattle.std.specs.Prelude.{Option, None, Some, Result, Ok, Err, ok_or}
use Prim.Native.Nat.{ℕ, zero, suc, ◌+◌, ◌-◌, ◌≤◌, ◌<◌}
use native.Mathlib.Omega.{arith}
use mathlib.Core.Path.{◌≡◌, refl, sym, ap, ◌∙◌}
use mathlib.Core.Logic.{◌⊎◌, inl, inr, ◌≢◌}
use mathlib.Core.Bool.{Bool, cond}
use mathlib.Core.List.{List, [], ◌∷◌, ◌++◌, append-nil}
use lib.ListN.{length, drop, length-append, length-drop, drop_of_length-le}
use lib.Seq.{take_all, take_at, drop-append-add}
use borrow.Author.Tests.{eq-eqb, ne_eqb}
use Rattle.base_lists.specs.Bytes.{dot}
use Rattle.base_lists.proofs.OrderLaws.{le_or_lt}
use Rattle.base_scan.specs.Find.{index, seek, is, found}
use Rattle.base_scan.specs.Part as scan
use Rattle.base_scan.proofs.FindLaws.{index_append, seek_end}
use Rattle.base_scan.proofs.PartLaws.{part_found, drop_found, part_past}
use Rattle.write_decimals.specs.Decimal.{decimal}
use Rattle.read_numbers.specs.Number.{most32, version_part, number_then}
use Rattle.write_decimals.proofs.DecimalLaws.{decimal_some, version_part_decimal, decimal_fails}
use Rattle.read_numbers.proofs.NumberLaws.{numeral_bounds}
use Rattle.base_refusals.specs.declared.Refusal.{Refusal}
use Rattle.base_refusals.specs.declared.Refusal.TheVariants as refusal
use Rattle.read_version.specs.declared.GffVersion.{GffVersion}
use Rattle.read_version.specs.GffVersion.{upto, has_dot, beyond, version, patch_of, minor_of, version_of}

-- ── a part, then a dot or the end ─────────────────────────────────────────────────────────────

abbrev Read : Type 0
Read = Result GffVersion Refusal

-- what a part comes to: refused, or the last one, or more behind a dot
unfoldable pub part_then : Read → (ℕ → Read) → (ℕ → List ℕ → Read) → List ℕ → Read
part_then refused last more s = number_then refused (version_part (upto s)) (λ n. cond (has_dot s) (more n (beyond s)) (last n))

pub minor_is : (major : ℕ) (s : List ℕ)
    → minor_of major s ≡ part_then (Err refusal.Minor) (λ minor. version major (Some minor) None) (patch_of major) s
unfolding minor_of part_then
minor_is major s = refl

pub version_none : (s : List ℕ) → length s ≡ 0 → Err refusal.Empty ≡ version_of s
unfolding version_of
version_none [] e = refl
version_none (x ∷ s) e = absurd (omega arith)

pub version_is : (s : List ℕ) → length s ≢ 0
    → version_of s ≡ part_then (Err refusal.Major) (λ major. version major None None) minor_of s
unfolding version_of part_then
version_is [] h = absurd (h refl)
version_is (x ∷ s) h = refl

-- how far a search from a cursor comes, and how much is left, whatever the cursor
seek_left : (test : ℕ → Bool) (at : ℕ) (s : List ℕ) → seek test at s + length (drop at s) ≡ index test (drop at s) + length s
unfolding seek index
seek_left test zero s = refl
seek_left test (suc at) [] = refl
seek_left test (suc at) (x ∷ s) = omega (arith, seek_left test at s)

upto_at : (at : ℕ) (s : List ℕ) → upto (drop at s) ≡ scan.part at (found dot at s) s
unfolding index
upto_at at s = go (le_or_lt at (length s))
  where
    go : (at ≤ length s) ⊎ (length s < at) → upto (drop at s) ≡ scan.part at (found dot at s) s
    go (inl h) = part_found dot at s h
    go (inr h) = ap upto (drop_of_length-le s {i = at} (omega arith)) ∙ part_past at (found dot at s) s (omega arith)

beyond_at : (at : ℕ) (s : List ℕ) → found dot at s ≢ length s → beyond (drop at s) ≡ drop (found dot at s + 1) s
beyond_at at s h = go (le_or_lt at (length s))
  where
    go : (at ≤ length s) ⊎ (length s < at) → beyond (drop at s) ≡ drop (found dot at s + 1) s
    go (inl g) = drop_found dot at s g
    go (inr g) = absurd (h (seek_end (is dot) at s (omega arith)))

-- what a number that is asked for tells
told_some : (o : Option ℕ) (r : Refusal) {n : ℕ} → ok_or o r ≡ Ok n → o ≡ Some n
told_some (Some m) r e = cc
told_some None r e = cc

told_none : (o : Option ℕ) (r : Refusal) {e : Refusal} → ok_or o r ≡ Err e → (o ≡ None) × (e ≡ r)
told_none (Some m) r e = cc
told_none None r e = (refl, cc)

-- a part that is read fits 32 bits
pub part_fits : (t : List ℕ) {o : Option ℕ} (r : Refusal) {n : ℕ} → o ≡ version_part t → ok_or o r ≡ Ok n → n ≤ most32
part_fits t r a e = (numeral_bounds _ (sym a ∙ told_some _ r e)).1

-- what was read of the part from a cursor on, up to the first dot
module _ (r : Refusal) (last : ℕ → Read) (more : ℕ → List ℕ → Read) (at : ℕ)
    (s : List ℕ) {to : ℕ} {v : Result ℕ Refusal}
    (d : to ≡ found dot at s) (a : v ≡ ok_or (version_part (scan.part at to s)) r) where
  part_read : version_part (upto (drop at s)) ≡ version_part (scan.part at to s)
  part_read = rw d (ap version_part (upto_at at s))

  -- no number
  pub part_invalid : {e : Refusal} → v ≡ Err e → Err e ≡ part_then (Err r) last more (drop at s)
  unfolding part_then
  part_invalid k = let n = told_none (version_part (scan.part at to s)) r (sym a ∙ k) in rw (part_read, n.0, n.1)

  -- a number, and the end
  pub part_last : {n : ℕ} → v ≡ Ok n → to ≡ length s → last n ≡ part_then (Err r) last more (drop at s)
  unfolding part_then
  part_last k h =
      rw (
        part_read,
        told_some (version_part (scan.part at to s)) r (sym a ∙ k),
        eq-eqb (index (is dot) (drop at s)) (length (drop at s)) (omega (arith, seek_left (is dot) at s)),
      )

  -- a number, and more behind a dot
  pub part_more : {n : ℕ} → v ≡ Ok n → to ≢ length s → more n (drop (to + 1) s) ≡ part_then (Err r) last more (drop at s)
  unfolding part_then
  part_more k h =
      rw (
        part_read,
        told_some (version_part (scan.part at to s)) r (sym a ∙ k),
        ne_eqb (index (is dot) (drop at s)) (length (drop at s)) (λ g. h (omega (arith, seek_left (is dot) at s))),
        beyond_at at s (λ g. h (d ∙ g)),
        d,
      )

-- the last part is all that is left
left_part : (at : ℕ) (s : List ℕ) → drop at s ≡ scan.part at (length s) s
left_part at s = sym (take_all (length s - at) (drop at s) (simp length-drop (omega arith)))

module _ (major minor at : ℕ) (s : List ℕ) {v : Result ℕ Refusal}
    (a : v ≡ ok_or (version_part (scan.part at (length s) s)) refusal.Patch) where
  pub patch_invalid : {e : Refusal} → v ≡ Err e → Err e ≡ patch_of major minor (drop at s)
  unfolding patch_of
  patch_invalid k =
      let n = told_none (version_part (scan.part at (length s) s)) refusal.Patch (sym a ∙ k) in rw (left_part at s, n.0, n.1)

  pub patch_read : {n : ℕ} → v ≡ Ok n → version major (Some minor) (Some n) ≡ patch_of major minor (drop at s)
  unfolding patch_of
  patch_read k = rw (left_part at s, told_some (version_part (scan.part at (length s) s)) refusal.Patch (sym a ∙ k))

-- ── read back ─────────────────────────────────────────────────────────────────────────────────

-- a number, then a dot or the end
module _ (n : ℕ) (rest : List ℕ) where
  written_dot : index (is dot) rest ≡ 0 → length (decimal n) ≡ found dot 0 (decimal n ++ rest)
  unfolding seek
  written_dot e =
      omega (arith, index_append (is dot) (decimal n) rest (decimal_fails (is dot) (λ x g k. ne_eqb x dot (λ z. omega arith)) n))

  written_part : decimal n ≡ scan.part 0 (length (decimal n)) (decimal n ++ rest)
  written_part = sym (take_at (decimal n) rest (length (decimal n) - 0) (omega arith))

module _ (r : Refusal) (last : ℕ → Read) (more : ℕ → List ℕ → Read) (n : ℕ) (h : n ≤ most32) where
  written : (rest : List ℕ) → Ok n ≡ ok_or (version_part (scan.part 0 (length (decimal n)) (decimal n ++ rest))) r
  written rest = rw (← written_part n rest, version_part_decimal n h)

  written_last : part_then (Err r) last more (decimal n) ≡ last n
  unfolding index
  written_last =
      rw append-nil at
      (sym (part_last r last more 0 (decimal n ++ []) (written_dot n [] refl) (written []) refl (omega (arith, length-append (decimal n) []))))

  written_more : (s : List ℕ) → part_then (Err r) last more (decimal n ++ dot ∷ s) ≡ more n s
  unfolding index
  written_more s =
      rw (drop-append-add (decimal n) (dot ∷ s) 1) at
      (sym (part_more r last more 0 (decimal n ++ dot ∷ s) (written_dot n (dot ∷ s) refl) (written (dot ∷ s)) refl
      (λ g. omega (arith, length-append (decimal n) (dot ∷ s)))))

module _ (major : ℕ) (h : major ≤ most32) where
  pub version_major : version_of (decimal major) ≡ version major None None
  version_major = rw (version_is (decimal major) (λ e. omega (arith, decimal_some major))) (written_last _ _ _ major h)

  -- a version, whatever follows the first dot
  more_reads : (s : List ℕ) → version_of (decimal major ++ dot ∷ s) ≡ minor_of major s
  more_reads s =
      rw (version_is (decimal major ++ dot ∷ s) (λ e. omega (arith, length-append (decimal major) (dot ∷ s))))
      (written_more _ _ _ major h s)

  module _ (minor : ℕ) (g : minor ≤ most32) where
    pub version_minor : version_of (decimal major ++ dot ∷ decimal minor) ≡ version major (Some minor) None
    version_minor = more_reads (decimal minor) ∙ minor_is major (decimal minor) ∙ written_last _ _ _ minor g

    pub version_patch : (patch : ℕ) → patch ≤ most32
        → version_of (decimal major ++ dot ∷ (decimal minor ++ dot ∷ decimal patch)) ≡ version major (Some minor) (Some patch)
    unfolding patch_of
    version_patch patch k =
        more_reads (decimal minor ++ dot ∷ decimal patch)
        ∙ minor_is major (decimal minor ++ dot ∷ decimal patch)
        ∙ written_more _ _ _ minor g (decimal patch)
        ∙ rw (version_part_decimal patch k)
