-- The values of an attribute on the sheet, from a cursor on. Assumes nothing.
use Prim.Native.Nat.{ℕ, suc, ◌+◌, ◌*◌, ◌≤◌}
use native.Mathlib.Omega.{arith}
use mathlib.Core.Path.{◌≡◌, ap, ◌∙◌}
use mathlib.Core.Bool.{Bool, true, false, cond}
use mathlib.Core.List.{List, [], ◌∷◌, ◌++◌, map, flat_map}
use lib.Dec.{eqb}
use lib.ListN.{length, length-append, length-map}
use Rattle.base_scan.specs.declared.place.Place.{Place}
use Rattle.base_scan.specs.Part.{text_at}
use Rattle.percent_coding.specs.Percent.{decoded}
use Rattle.percent_coding.proofs.PercentLaws.{length_decoded}
use Rattle.read_values.specs.declared.ValueCursor.{ValueCursor}
use Rattle.read_values.specs.Step.{fresh}
use Rattle.read_values.specs.Pieces.{pieces_after, pieces}
use Rattle.read_attributes.specs.Attributes.{values}
use Rattle.read_values.proofs.PiecesLaws.{pieces_few}
use Rattle.read_values.proofs.ValueLaws.{left, Hands}
use Rattle.sheet_form.specs.Sheet.{section_of, counted_of}
use Rattle.sheet_form.proofs.LengthLaws.{length_section, length_counted}

-- the values that are still to come, decoded
abbrev pub coming : List ℕ → ValueCursor → List (List ℕ)
coming s c = map decoded (left s c)

-- from the start all of them
pub coming_start : (s : List ℕ) (c : ValueCursor) → c ≡ fresh → coming s c ≡ values s
coming_start s c h = rw h

module _ {s : List ℕ} {c next : ValueCursor} {place : Place} (hands : Hands s c place next) where
  -- the next one, and those behind it
  pub coming_next : coming s c ≡ decoded (text_at place s) ∷ coming s next
  coming_next = ap (map decoded) hands.first

  pub sections_next : flat_map section_of (coming s c) ≡ section_of (decoded (text_at place s)) ++ flat_map section_of (coming s next)
  unfolding flat_map
  sections_next = ap (flat_map section_of) coming_next

  pub length_next : length (flat_map section_of (coming s c)) ≡ 4 + length (decoded (text_at place s)) + length (flat_map section_of
      (coming s next))
  length_next = ap length sections_next ∙ simp (length-append, length_section) (omega arith)

-- none is left
pub sections_done : (s : List ℕ) (c : ValueCursor) → left s c ≡ [] → flat_map section_of (coming s c) ≡ []
unfolding flat_map
sections_done s c e = rw e

-- ── bounds ────────────────────────────────────────────────────────────────────────────────────

-- there is at most one value more than there are bytes
pub values_few : (s : List ℕ) → length (values s) ≤ suc (length s)
values_few s = omega (arith, length-map (pieces 44 s) decoded, pieces_few 44 s)

-- a byte of the text makes at most four of the sheet: a comma makes a count
sections_few : (piece s : List ℕ) → length (flat_map section_of (map decoded (pieces_after 44 piece s))) ≤ 4 + length piece + 4 * length s
unfolding pieces_after flat_map
sections_few piece [] = simp (length-append, length_section) (omega (arith, length_decoded piece))
sections_few piece (x ∷ s) = go (eqb x 44) (sections_few [] s) (sections_few (piece ++ (x ∷ [])) s)
  where
    go : (t : Bool) → length (flat_map section_of (map decoded (pieces_after 44 [] s))) ≤ 4 + 0 + 4 * length s
        → length (flat_map section_of (map decoded (pieces_after 44 (piece ++ (x ∷ [])) s))) ≤ 4 + length (piece ++ (x ∷ [])) + 4 * length s
        → length (flat_map section_of
        (map decoded (cond t (piece ∷ pieces_after 44 [] s)
        (pieces_after 44 (piece ++ (x ∷ [])) s)))) ≤ 4 + length piece + 4 * suc (length s)
    go true h k = simp (length-append, length_section) (omega (arith, length_decoded piece))
    go false h k = let e = simp length-append at k in omega arith

pub values_bound : (s : List ℕ) → length (counted_of section_of (values s)) ≤ 8 + 4 * length s
values_bound s = omega (arith, length_counted section_of (values s), sections_few [] s)
