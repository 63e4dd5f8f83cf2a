-- The attributes of column 9 on the sheet, from a cursor on. Assumes nothing.
use Prim.Native.Nat.{ℕ, zero, suc, ◌+◌, ◌-◌, ◌*◌, ◌≤◌, ◌<◌}
use native.Mathlib.Omega.{arith}
use mathlib.Core.Path.{◌≡◌, refl, sym, ap, ◌∙◌}
use mathlib.Core.Logic.{inl, inr}
use mathlib.Core.Bool.{true, false, true≢false}
use mathlib.Core.List.{List, [], ◌∷◌, flat_map}
use mathlib.Core.Option.{Option, none, some}
use lib.ListN.{length, length-append}
use Rattle.base_scan.specs.Part.{text_at}
use Rattle.read_attributes.specs.declared.field.Field.{Field}
use Rattle.std.specs.Prelude.{Option as Optional, Some, None, Result, Ok, Err}
use Rattle.base_refusals.specs.declared.Refusal.{Refusal}
use Rattle.read_attributes.specs.Attributes.{Attribute, Walk, done, refused, attribute, attributes, and_before, walk_from, walk, values}
use Rattle.read_attributes.specs.Step.{next_field}
use Rattle.read_attributes.proofs.WalkLaws.{Hands, Leads, Meets, field_meets, walk_clipped}
use Rattle.percent_coding.specs.Percent.{decoded}
use Rattle.percent_coding.proofs.PercentLaws.{length_decoded}
use Rattle.sheet_form.specs.Sheet.{section_of, counted_of, attribute_of}
use Rattle.sheet_form.proofs.LengthLaws.{length_section, length_counted}
use Rattle.read_judge.specs.Judge.{got, stuck}
use Rattle.read_judge.proofs.ValuesLaws.{values_bound}

-- an attribute is its tag and its values
pub length_parts : (tag value : List ℕ)
    → length (attribute_of (attribute tag value)) ≡ 4 + length (decoded tag) + length (counted_of section_of (values value))
unfolding attribute attribute_of
length_parts tag value = simp (length-append, length_section) (omega arith)

-- so where both texts stand for themselves, and there is one value
pub length_plain : (tag value : List ℕ) → decoded tag ≡ tag → values value ≡ value ∷ []
    → length (attribute_of (attribute tag value)) ≡ 12 + length tag + length value
unfolding flat_map
length_plain tag value e k =
    omega (
      arith,
      length_parts tag value,
      ap length e,
      ap (λ (vs : List (List ℕ)). length (counted_of section_of vs)) k,
      length_counted section_of (value ∷ []),
      length-append (section_of value) [],
      length_section value,
    )

-- ── from a cursor on ───────────────────────────────────────────────────────────────────────────

-- the attributes that are still to come, where the walk is not refused
abbrev pub rest : Walk → List ℕ
rest w = flat_map attribute_of (got (attributes w))

-- the next one, and those behind it
pub got_next : {s : List ℕ} {at : ℕ} {field : Field} → Hands s at field → stuck (attributes (walk_from s at)) ≡ false
    → (stuck (attributes (walk_from s field.next)) ≡ false)
    × (got (attributes (walk_from s at)) ≡ attribute (text_at field.tag s) (text_at field.value s) ∷ got (attributes (walk_from s
    field.next)))
unfolding attributes
got_next {s} {at} {field} h e =
    rw h.met (go (attribute (text_at field.tag s) (text_at field.value s)) (attributes (walk_from s field.next))
    (rw h.met at e))
  where
    go : (a : Attribute) (o : Option (List Attribute)) → stuck (and_before a o) ≡ false
        → (stuck o ≡ false) × (got (and_before a o) ≡ a ∷ got o)
    go a none e = absurd (true≢false e)
    go a (some l) e = (refl, refl)

pub got_done : got (attributes done) ≡ []
unfolding attributes
got_done = refl

pub refused_stuck : stuck (attributes refused) ≡ true
unfolding attributes
refused_stuck = refl

-- none, where the walk has ended and is not refused
pub got_ended : (s : List ℕ) (at : ℕ) → Leads s at None → stuck (attributes (walk_from s at)) ≡ false
    → got (attributes (walk_from s at)) ≡ []
got_ended s at (inl e) h = rw (e, got_done)
got_ended s at (inr e) h = absurd (true≢false (sym refused_stuck ∙ (rw e at h)))

-- ── bounds ────────────────────────────────────────────────────────────────────────────────────

attribute_few : (tag value : List ℕ) → length (attribute_of (attribute tag value)) ≤ 12 + length tag + 4 * length value
attribute_few tag value = omega (arith, length_parts tag value, length_decoded tag, values_bound value)

one_few : (a : Attribute) (o : Option (List Attribute))
    → length (flat_map attribute_of (got (and_before a o))) ≤ length (attribute_of a) + length (flat_map attribute_of (got o))
unfolding flat_map
one_few a none = omega arith
one_few a (some l) = simp length-append (omega arith)

-- a byte of the column makes at most six of the sheet
rest_few : (n : ℕ) (s : List ℕ) (at : ℕ) → length s + 1 - at < n → length (rest (walk_from s at)) ≤ 6 * (length s + 1 - at)
unfolding attributes flat_map
rest_few zero s at h = absurd (omega arith)
rest_few (suc n) s at h = go (next_field s at) (field_meets s at) (λ next l. rest_few n s next (omega arith))
  where
    go : (r : Result (Optional Field) Refusal) → Meets s at r
        → ((next : ℕ) → length s + 1 - next < length s + 1 - at → length (rest (walk_from s next)) ≤ 6 * (length s + 1 - next))
        → length (rest (walk_from s at)) ≤ 6 * (length s + 1 - at)
    go (Ok None) m more = rw m (omega arith)
    go (Err r) m more = rw m.1 (omega arith)
    go (Ok (Some field)) m more =
        let t = text_at field.tag s in
        let v = text_at field.value s in
        let behind = field.value.end + 1 in
        rw (m.met, m.next, walk_clipped s behind)
        (omega (
          arith,
          one_few (attribute t v) (attributes (walk_from s behind)),
          attribute_few t v,
          more behind (omega arith),
        ))

pub attributes_few : (column : List ℕ) → length (rest (walk column)) ≤ 6 + 6 * length column
attributes_few column = omega (arith, rest_few (length column + 2) column 0 (omega arith))
