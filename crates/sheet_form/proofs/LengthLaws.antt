-- How long a sheet is: by its parts, and at least so long as its texts and its counts ask. Assumes nothing.
use Prim.Native.Nat.{ℕ, ◌+◌, ◌*◌, ◌≤◌}
use native.Mathlib.Omega.{arith}
use mathlib.Core.Path.{◌≡◌, refl}
use mathlib.Core.Logic.{◌≢◌}
use mathlib.Core.List.{List, [], ◌∷◌, flat_map}
use lib.ListN.{length, length-append}
use Rattle.base_lists.specs.Bytes.{Every}
use Rattle.base_lists.proofs.EveryLaws.{every_append, every_each}
use Rattle.read_attributes.specs.Attributes.{Attribute}
use Rattle.sheet_form.specs.Sheet.{Sheet, count_of, section_of, counted_of, attribute_of, sheet_of}
use Rattle.sheet_form.proofs.SheetLaws.{GoodAttribute, GoodSheet}

-- ── by its parts ──────────────────────────────────────────────────────────────────────────────

pub length_section : (s : List ℕ) → length (section_of s) ≡ 4 + length s
unfolding section_of count_of
length_section s = omega arith

pub length_counted : {A : Type 0} (w : A → List ℕ) (l : List A) → length (counted_of w l) ≡ 4 + length (flat_map w l)
unfolding counted_of count_of
length_counted w l = omega arith

pub length_attribute : (a : Attribute) → length (attribute_of a) ≡ 8 + length a.tag + length (flat_map section_of a.values)
unfolding attribute_of
length_attribute a = simp (length-append, length_section, length_counted) (omega arith)

pub length_sheet : (s : Sheet)
    → length (sheet_of s) ≡ 20 + length s.name + length s.source + length s.type + length s.score + length (flat_map attribute_of s.attributes)
unfolding sheet_of
length_sheet s = simp (length-append, length_section, length_counted) (omega arith)

-- ── at least ──────────────────────────────────────────────────────────────────────────────────

-- a value takes four bytes, those of its count
pub length_values : (vs : List (List ℕ)) → length vs * 4 ≤ length (flat_map section_of vs)
unfolding flat_map
length_values [] = omega arith
length_values (v ∷ vs) = simp (length-append, length_section) (omega (arith, length_values vs))

-- an attribute takes twelve: the counts of its tag, of its values and of a value
twelve : (a : Attribute) → a.values ≢ [] → 12 ≤ length (attribute_of a)
twelve a h = simp length_attribute (omega (arith, length_values a.values, some_length a.values h))
  where
    some_length : (vs : List (List ℕ)) → vs ≢ [] → 1 ≤ length vs
    some_length [] h = absurd (h refl)
    some_length (v ∷ vs) h = omega arith

pub length_attributes : (l : List Attribute) → Every (λ a. a.values ≢ []) l → length l * 12 ≤ length (flat_map attribute_of l)
unfolding flat_map
length_attributes [] h = omega arith
length_attributes (a ∷ l) h = simp length-append (omega (arith, twelve a h.0, length_attributes l h.1))

-- so a sheet has few attributes and few values for its bytes
pub attributes_few : (s : Sheet) → GoodSheet s → 20 + length s.attributes * 12 ≤ length (sheet_of s)
attributes_few s g =
    let some_values = every_each GoodAttribute (λ a. a.values ≢ []) (λ a h. h.good_values.1) s.attributes g.good_attributes.1 in
    omega (arith, length_sheet s, length_attributes s.attributes some_values)

pub values_few : (s : Sheet) → 20 + length (flat_map (λ a. a.values) s.attributes) * 4 ≤ length (sheet_of s)
unfolding flat_map
values_few s = omega (arith, length_sheet s, go s.attributes)
  where
    go : (l : List Attribute) → length (flat_map (λ a. a.values) l) * 4 ≤ length (flat_map attribute_of l)
    go [] = omega arith
    go (a ∷ l) = simp (length-append, length_attribute) (omega (arith, length_values a.values, go l))

-- ── each text is shorter by twenty bytes, those of the five counts that every sheet has ───────

abbrev pub attribute_texts : Attribute → List (List ℕ)
attribute_texts a = a.tag ∷ a.values

abbrev pub texts : Sheet → List (List ℕ)
texts s = s.name ∷ s.source ∷ s.type ∷ s.score ∷ flat_map attribute_texts s.attributes

module _ (n : ℕ) where
  values_short : (vs : List (List ℕ)) → 20 + length (flat_map section_of vs) ≤ n → Every (λ t. 20 + length t ≤ n) vs
  unfolding flat_map
  values_short [] h = tt
  values_short (v ∷ vs) h = let k = simp (length-append, length_section) at h in (omega arith, values_short vs (omega arith))

  attributes_short : (l : List Attribute) → 20 + length (flat_map attribute_of l) ≤ n
      → Every (λ t. 20 + length t ≤ n) (flat_map attribute_texts l)
  unfolding flat_map
  attributes_short [] h = tt
  attributes_short (a ∷ l) h =
      let k = simp (length-append, length_attribute) at h in (
        omega arith,
        every_append (λ t. 20 + length t ≤ n) a.values _ (values_short a.values (omega arith)) (attributes_short l (omega arith)),
      )

pub texts_short : (s : Sheet) → Every (λ t. 20 + length t ≤ length (sheet_of s)) (texts s)
texts_short s =
    let e = length_sheet s in
    (omega arith, (omega arith, (omega arith, (omega arith, attributes_short (length (sheet_of s)) s.attributes (omega arith)))))
