-- A line of bytes is unfolded into a sheet of bytes, whose attributes have a value each, and into positions of 64 bits. Assumes nothing.
use Prim.Native.Nat.{ℕ, zero, suc, ◌+◌, ◌-◌, ◌*◌, ◌<◌, ◌≤◌}
use native.Mathlib.Omega.{arith}
use mathlib.Core.Path.{◌≡◌, refl, sym, ap, ◌∙◌}
use mathlib.Core.Logic.{◌≢◌}
use mathlib.Core.Bool.{Bool, true, false, cond, not, ◌&&◌, ◌||◌}
use mathlib.Core.List.{List, [], ◌∷◌, ◌++◌, map, flat_map}
use mathlib.Core.Option.{Option, none, some}
use lib.Dec.{eqb, ltb}
use lib.ListN.{length, take, drop}
use borrow.Author.Tests.{ltb-true}
use Rattle.std.specs.Prelude as std
use Rattle.base_lists.specs.Bytes.{Every, Bytes, comma}
use Rattle.base_lists.proofs.BoolLaws.{and_left, and_right}
use Rattle.base_lists.proofs.EveryLaws.{every_append, every_map}
use Rattle.base_lists.proofs.TableLaws.{below_holds}
use Rattle.base_refusals.specs.declared.Refusal.TheVariants as refusal
use Rattle.read_numbers.specs.Number.{position, most64}
use Rattle.read_numbers.proofs.NumberLaws.{numeral_bounds}
use Rattle.percent_coding.specs.Percent.{is_hex, hex_value, decoded}
use Rattle.read_values.specs.Pieces.{pieces_after, pieces}
use Rattle.read_values.proofs.PiecesLaws.{pieces_next}
use Rattle.base_words.specs.Same.{is_dot}
use Rattle.read_attributes.specs.Attributes.{Walk, done, refused, then, tag_after, value_after, walk_from, walk, Attribute, attribute}
use Rattle.read_attributes.specs.Attributes.{values, and_before, attributes}
use Rattle.read_attributes.specs.Written.{Writable}
use Rattle.read_tokens.specs.Tokens.{position_of}
use Rattle.read_columns.specs.declared.column.Column.{Column}
use Rattle.read_columns.specs.declared.column.Column.TheVariants as column
use Rattle.read_columns.specs.Columns.{column_place, column_text}
use Rattle.sheet_form.specs.Sheet.{Sheet, count_of, section_of, counted_of, attribute_of, sheet_of}
use Rattle.read_judge.specs.Judge.{got, unfolded, or_else}
use Rattle.promise_roundtrip.proofs.AcceptedLaws.{score_bytes}

-- ── parts and pieces ──────────────────────────────────────────────────────────────────────────

every_take : (P : ℕ → Type 0) (n : ℕ) (s : List ℕ) → Every P s → Every P (take n s)
every_take P zero s h = tt
every_take P (suc n) [] h = tt
every_take P (suc n) (x ∷ s) h = (h.0, every_take P n s h.1)

every_drop : (P : ℕ → Type 0) (n : ℕ) (s : List ℕ) → Every P s → Every P (drop n s)
every_drop P zero s h = h
every_drop P (suc n) [] h = tt
every_drop P (suc n) (x ∷ s) h = every_drop P n s h.1

column_bytes : (c : Column) (s : List ℕ) → Bytes s → Bytes (column_text c s)
column_bytes c s h =
    let p = column_place c s in
    every_take (λ x. x < 256) (p.end - p.start) (drop p.start s) (every_drop (λ x. x < 256) p.start s h)

-- one byte more
grown : (s : List ℕ) (x : ℕ) → Bytes s → x < 256 → Bytes (s ++ (x ∷ []))
grown s x h b = every_append (λ y. y < 256) s (x ∷ []) h (b, tt)

pieces_bytes : (c : ℕ) (piece s : List ℕ) → Bytes piece → Bytes s → Every Bytes (pieces_after c piece s)
unfolding pieces_after
pieces_bytes c piece [] p h = (p, tt)
pieces_bytes c piece (x ∷ s) p h =
    go (eqb x c) (pieces_bytes c [] s tt h.1) (pieces_bytes c (piece ++ (x ∷ [])) s (grown piece x p h.0) h.1)
  where
    go : (t : Bool) → Every Bytes (pieces_after c [] s) → Every Bytes (pieces_after c (piece ++ (x ∷ [])) s)
        → Every Bytes (cond t (piece ∷ pieces_after c [] s) (pieces_after c (piece ++ (x ∷ [])) s))
    go true k l = (p, k)
    go false k l = l

-- ── decoding ──────────────────────────────────────────────────────────────────────────────────

-- a hex digit's value is below 16: one test for all bytes
abbrev small : ℕ → Bool
small x = not (is_hex x) || ltb (hex_value x) 16

digit_small : (x : ℕ) → x < 256 → is_hex x ≡ true → hex_value x < 16
unfolding is_hex hex_value
digit_small x b e = ltb-true _ _ (rw e at (below_holds 256 small refl x b))

decoded_bytes : (s : List ℕ) → Bytes s → Bytes (decoded s)
unfolding decoded
decoded_bytes [] h = h
decoded_bytes (x ∷ []) h = h
decoded_bytes (x ∷ y ∷ []) h = h
decoded_bytes (x ∷ y ∷ z ∷ s) h =
    go (eqb x 37 && is_hex y && is_hex z) refl (decoded_bytes s h.1.1.1) (decoded_bytes (y ∷ z ∷ s) h.1)
  where
    go : (t : Bool) → (eqb x 37 && is_hex y && is_hex z) ≡ t → Bytes (decoded s) → Bytes (decoded (y ∷ z ∷ s))
        → Bytes (cond t ((hex_value y * 16 + hex_value z) ∷ decoded s) (x ∷ decoded (y ∷ z ∷ s)))
    go true e k l =
        let hi = digit_small y h.1.0 (and_right (eqb x 37) (is_hex y) (and_left (eqb x 37 && is_hex y) (is_hex z) e)) in
        let lo = digit_small z h.1.1.0 (and_right (eqb x 37 && is_hex y) (is_hex z) e) in
        (omega arith, k)
    go false e k l = (h.0, l)

-- ── the walk ──────────────────────────────────────────────────────────────────────────────────

abbrev WalkBytes : Walk → Type 0
WalkBytes done = Unit {0}
WalkBytes refused = Unit {0}
WalkBytes (then tag value w) = Bytes tag × Bytes value × WalkBytes w

either : (t : Bool) (v w : Walk) → WalkBytes v → WalkBytes w → WalkBytes (cond t v w)
either true v w p q = p
either false v w p q = q

mutual
  unfolding tag_after value_after

  tag_bytes : (tag s : List ℕ) → Bytes tag → Bytes s → WalkBytes (tag_after tag s)
  tag_bytes [] [] p h = tt
  tag_bytes (y ∷ tag) [] p h = tt
  tag_bytes tag (x ∷ s) p h =
      either (eqb x 61) _ _ (value_bytes tag [] s p tt h.1) (tag_bytes (tag ++ (x ∷ [])) s (grown tag x p h.0) h.1)

  value_bytes : (tag value s : List ℕ) → Bytes tag → Bytes value → Bytes s → WalkBytes (value_after tag value s)
  value_bytes tag value [] p q h = (p, q, tt)
  value_bytes tag value (x ∷ s) p q h =
      either (eqb x 59) _ _ (p, q, tag_bytes [] s tt h.1) (value_bytes tag (value ++ (x ∷ [])) s p (grown value x q h.0) h.1)

walk_bytes : (s : List ℕ) → Bytes s → WalkBytes (walk s)
unfolding walk_from
walk_bytes s h = either (is_dot s) _ _ tt (tag_bytes [] s tt h)

-- a value splits into one piece at least
some_values : (value : List ℕ) → values value ≢ []
some_values value none_left = omega (arith, ap length (sym none_left ∙ ap (map decoded) (pieces_next comma 0 value)))

attribute_good : (tag value : List ℕ) → Bytes tag → Bytes value → Writable (attribute tag value)
unfolding attribute
attribute_good tag value p q =
    record {
      tag_bytes = decoded_bytes tag p;
      value_bytes = every_map decoded Bytes Bytes decoded_bytes (pieces comma value) (pieces_bytes comma [] value tt q);
      a_value = some_values value;
    }

attributes_good : (w : Walk) → WalkBytes w → Every Writable (got (attributes w))
unfolding attributes
attributes_good done h = tt
attributes_good refused h = tt
attributes_good (then tag value w) h = go (attributes w) (attribute_good tag value h.0 h.1) (attributes_good w h.2)
  where
    go : {a : Attribute} (o : Option (List Attribute)) → Writable a → Every Writable (got o) → Every Writable (got (and_before a o))
    go none p q = tt
    go (some l) p q = (p, q)

-- ── the sheet ─────────────────────────────────────────────────────────────────────────────────

number_bytes : (n : ℕ) (s : List ℕ) → Bytes s → Bytes (count_of n ++ s)
unfolding count_of
number_bytes n s h = (omega arith, (omega arith, (omega arith, (omega arith, h))))

section_bytes : (s : List ℕ) → Bytes s → Bytes (section_of s)
unfolding section_of
section_bytes s h = number_bytes (length s) s h

counted_bytes : {A : Type 0} (w : A → List ℕ) (Good : A → Type 0) → ((a : A) → Good a → Bytes (w a)) → (l : List A) → Every Good l
    → Bytes (counted_of w l)
unfolding counted_of flat_map
counted_bytes {A} w Good k l h = number_bytes (length l) (flat_map w l) (flat l h)
  where
    flat : (l : List A) → Every Good l → Bytes (flat_map w l)
    flat [] h = tt
    flat (a ∷ l) h = every_append (λ x. x < 256) (w a) (flat_map w l) (k a h.0) (flat l h.1)

attribute_bytes : (a : Attribute) → Writable a → Bytes (attribute_of a)
unfolding attribute_of
attribute_bytes a g =
    every_append (λ x. x < 256) (section_of a.tag) _ (section_bytes a.tag g.tag_bytes)
    (counted_bytes section_of Bytes section_bytes a.values g.value_bytes)

-- a section, and what follows
behind : (t rest : List ℕ) → Bytes t → Bytes rest → Bytes (section_of t ++ rest)
behind t rest h k = every_append (λ x. x < 256) (section_of t) rest (section_bytes t h) k

-- each text of the sheet is bytes, and each attribute has a value
pub record SheetBytes (s : Sheet) : Type 0 where
  pub name_bytes : Bytes s.name
  pub source_bytes : Bytes s.source
  pub type_bytes : Bytes s.type
  pub score_bytes : Bytes s.score
  pub attributes_bytes : Every Writable s.attributes

sheet_bytes : (s : Sheet) → SheetBytes s → Bytes (sheet_of s)
unfolding sheet_of
sheet_bytes s b =
    let rest₄ = counted_of attribute_of s.attributes in
    let rest₃ = section_of s.score ++ rest₄ in
    let rest₂ = section_of s.type ++ rest₃ in
    let rest₁ = section_of s.source ++ rest₂ in
    behind s.name rest₁ b.name_bytes (behind s.source rest₂ b.source_bytes (behind s.type rest₃ b.type_bytes
    (behind s.score rest₄ b.score_bytes (counted_bytes attribute_of Writable attribute_bytes s.attributes b.attributes_bytes))))

pub unfolded_texts : (s : List ℕ) → Bytes s → SheetBytes (unfolded s)
unfolding unfolded
unfolded_texts s h =
    let text : (c : Column) → Bytes (decoded (column_text c s)) = λ c. decoded_bytes (column_text c s) (column_bytes c s h) in
    let column_9 = column_text column.Attributes s in
    record {
      name_bytes = text column.ReferenceSequenceName;
      source_bytes = text column.Source;
      type_bytes = text column.Ty;
      score_bytes = score_bytes (column_text column.Score s) (column_bytes column.Score s h);
      attributes_bytes = attributes_good (walk column_9) (walk_bytes column_9 (column_bytes column.Attributes s h));
    }

pub unfolded_bytes : (s : List ℕ) → Bytes s → Bytes (sheet_of (unfolded s))
unfolded_bytes s h = sheet_bytes (unfolded s) (unfolded_texts s h)

-- ── the positions ─────────────────────────────────────────────────────────────────────────────

pub position_le : (s : List ℕ) → or_else (position_of s) 0 ≤ most64
unfolding position_of
position_le s = go (position s) refl
  where
    go : (n : std.Option ℕ) → position s ≡ n → or_else (std.ok_or n refusal.Position) 0 ≤ most64
    go (std.Some v) e = (numeral_bounds s e).1
    go std.None e = omega arith
