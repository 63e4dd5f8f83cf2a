-- Texts that end before the next percent sign or the next `,`, which is known from some place on. Assumes nothing.
use Prim.Native.Nat.{ℕ, ◌-◌, ◌≤◌}
use native.Mathlib.Omega.{arith}
use mathlib.Core.Path.{◌≡◌, refl, ap, ◌∙◌}
use mathlib.Core.Bool.{Bool, true, false, cond, ◌&&◌}
use mathlib.Core.List.{List, [], ◌∷◌, map}
use lib.Dec.{leb, ltb}
use borrow.Author.Tests.{leb-true}
use Rattle.base_lists.specs.Bytes.{Lacks, percent, comma}
use Rattle.base_lists.proofs.BoolLaws.{and_left, and_right}
use Rattle.base_scan.specs.declared.place.Place.{Place}
use Rattle.base_scan.specs.Find.{seek, found, found_on}
use Rattle.base_scan.specs.Part.{part, text_at}
use Rattle.base_scan.proofs.PartLaws.{lacks_part, front_le}
use Rattle.percent_coding.specs.Percent.{decoded}
use Rattle.percent_coding.proofs.PercentLaws.{decoded_whole}
use Rattle.read_attributes.specs.declared.field.Field.{Field}
use Rattle.read_attributes.specs.Attributes.{values}
use Rattle.read_attributes.proofs.WalkLaws.{Hands}
use Rattle.read_values.proofs.PiecesLaws.{pieces_whole}

-- the next b of s, sought from a place at or before `at` on
pub record Ahead (b : ℕ) (s : List ℕ) (at sign : ℕ) : Type 0 where
  pub place : ℕ
  pub before : place ≤ at
  pub sought : sign ≡ found b place s

pub ahead_at : (b : ℕ) (s : List ℕ) (at : ℕ) → Ahead b s at (found b at s)
ahead_at b s at = record { place = at; before = omega arith; sought = refl }

-- from a later place on it is the same, or is sought anew where it was passed
pub ahead_behind : {b : ℕ} {s : List ℕ} {at sign : ℕ} (end next : ℕ) → Ahead b s at sign → at ≤ next → end ≤ next
    → Ahead b s next (found_on b sign end s)
ahead_behind {b} {s} {at} {sign} end next h k l = go (ltb sign end)
  where
    go : (t : Bool) → Ahead b s next (cond t (found b end s) sign)
    go true = record { place = end; before = l; sought = refl }
    go false = record { place = h.place; before = omega (arith, h.before); sought = h.sought }

-- what ends before it lacks it
ahead_lacks : {b : ℕ} {s : List ℕ} {at sign : ℕ} (p : Place) → Ahead b s at sign → at ≤ p.start → p.end ≤ sign → Lacks b (text_at p s)
ahead_lacks {b} {s} p h k l =
    lacks_part b s h.place p.start p.end (omega (arith, h.before)) (omega (arith, h.sought))

module _ {s : List ℕ} {at sign : ℕ} (p : Place) (h : Ahead percent s at sign) (k : at ≤ p.start) (l : p.end ≤ sign) where
  pub plain_text : decoded (text_at p s) ≡ text_at p s
  plain_text = decoded_whole (text_at p s) (ahead_lacks p h k l)

  -- before the next `,` too: one value
  plain_value : {separator : ℕ} → Ahead comma s at separator → p.end ≤ separator → values (text_at p s) ≡ text_at p s ∷ []
  plain_value c m = ap (map decoded) (pieces_whole comma (text_at p s) (ahead_lacks p c k m)) ∙ ap (λ (t : List ℕ). t ∷ []) plain_text

-- an attribute that ends before both signs: both texts stand for themselves, and it has one value
pub plain_field : {s : List ℕ} {at sign separator : ℕ} {field : Field} → Hands s at field → Ahead percent s at sign
    → Ahead comma s at separator → (leb field.value.end sign && leb field.value.end separator) ≡ true
    → (decoded (text_at field.tag s) ≡ text_at field.tag s) × (values (text_at field.value s) ≡ text_at field.value s ∷ [])
plain_field {s} {at} {sign} {separator} {field} h p c e =
    let end = field.value.end in
    let k = leb-true end sign (and_left (leb end sign) (leb end separator) e) in
    let l = leb-true end separator (and_right (leb end sign) (leb end separator) e) in
    (plain_text field.tag p (omega arith) (omega arith), plain_value field.value p (omega arith) k c l)

-- the first of a part from the front on
pub ahead_front : (b n : ℕ) (s : List ℕ) {sign e : ℕ} → sign ≡ found b 0 (part 0 n s) → e ≤ sign → e ≤ found b 0 s
unfolding seek
ahead_front b n s h l = omega (arith, front_le b (n - 0) s)
