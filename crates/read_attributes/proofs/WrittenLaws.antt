-- Column 9 there and back, over any coder: the walk over a written column meets what was written, and the column lacks the bytes that
-- would end it. Assumes nothing.
use Prim.Native.Nat.{ℕ}
use native.Mathlib.Omega.{arith}
use mathlib.Core.Path.{◌≡◌, refl}
use mathlib.Core.Logic.{◌≢◌}
use mathlib.Core.Bool.{Bool, true, false}
use mathlib.Core.List.{List, [], ◌∷◌, ◌++◌, map, append_assoc}
use mathlib.Core.Option.{some}
use Rattle.base_lists.specs.Bytes.{Every, Bytes, Lacks, comma, dot, semicolon, equals}
use Rattle.base_lists.proofs.EveryLaws.{every_append, every_map}
use Rattle.base_words.specs.Same.{is_dot}
use Rattle.percent_coding.specs.Percent.{decoded}
use Rattle.percent_coder.specs.Coder.{Coder}
use Rattle.read_values.specs.Pieces.{prefixed, joined}
use Rattle.read_attributes.specs.Attributes.{Attribute, tag_after, value_after, walk_from, walk, values, attribute, attributes}
use Rattle.read_attributes.specs.Written.{Writable, raw, written, column}
use Rattle.read_values.proofs.PiecesLaws.{pieces_joined, every_joined}
use Rattle.read_attributes.proofs.WalkLaws.{walk_attribute}

-- a text with `=` is no dot
no_dot : (t s : List ℕ) → is_dot (t ++ equals ∷ s) ≡ false
unfolding is_dot
no_dot [] [] = refl
no_dot [] (y ∷ s) = refl
no_dot (x ∷ []) s = refl
no_dot (x ∷ y ∷ t) s = refl

module _ {bars : ℕ → Bool} {encode : List ℕ → List ℕ} (coder : Coder bars encode) where
  -- each of some encoded texts lacks a barred byte
  each_lacks : (c : ℕ) → bars c ≡ true → (vs : List (List ℕ)) → Every Bytes vs → Every (Lacks c) (map encode vs)
  each_lacks c out = every_map encode Bytes (Lacks c) (coder.lacks c out)

  -- ── there and back, where the signs of column 9 are barred ────────────────────────────────────

  module _ (no_semicolon : bars semicolon ≡ true) (no_equals : bars equals ≡ true) (no_comma : bars comma ≡ true) where
    map_decoded : (vs : List (List ℕ)) → Every Bytes vs → map decoded (map encode vs) ≡ vs
    map_decoded [] h = refl
    map_decoded (v ∷ vs) h = rw (coder.back v h.0, map_decoded vs h.1)

    values_back : (vs : List (List ℕ)) → vs ≢ [] → Every Bytes vs → values (joined comma (map encode vs)) ≡ vs
    values_back [] held h = absurd (held refl)
    values_back (v ∷ vs) held h =
        rw (pieces_joined comma (encode v) (map encode vs) (each_lacks comma no_comma (v ∷ vs) h)) (map_decoded (v ∷ vs) h)

    attribute_back : (a : Attribute) → Writable a → attribute (encode a.tag) (raw encode a) ≡ a
    unfolding attribute
    attribute_back a w = rw (coder.back a.tag w.tag_bytes, values_back a.values w.a_value w.value_bytes)

    walk_first : (a : Attribute) (s : List ℕ) → Writable a
        → tag_after [] (written encode a ++ s) ≡ value_after (encode a.tag) (raw encode a) s
    unfolding written
    walk_first a s w =
        walk_attribute (encode a.tag) (raw encode a) s (coder.lacks equals no_equals a.tag w.tag_bytes)
        (every_joined (λ x. x ≢ semicolon) comma (omega arith) (map encode a.values)
        (each_lacks semicolon no_semicolon a.values w.value_bytes))

    walk_more : (a : Attribute) (more : List Attribute) → Every Writable (a ∷ more)
        → attributes (value_after (encode a.tag) (raw encode a) (prefixed semicolon (map (written encode) more))) ≡ some (a ∷ more)
    unfolding value_after prefixed attributes
    walk_more a [] h = rw (attribute_back a h.0)
    walk_more a (b ∷ more) h =
        rw (attribute_back a h.0, walk_first b (prefixed semicolon (map (written encode) more)) h.1.0, walk_more b more h.1)

    written_no_dot : (a : Attribute) (s : List ℕ) → is_dot (written encode a ++ s) ≡ false
    unfolding written
    written_no_dot a s = rw append_assoc (no_dot (encode a.tag) (raw encode a ++ s))

    -- the walk over a written column meets what was written
    pub walk_column : (l : List Attribute) → Every Writable l → attributes (walk (column encode l)) ≡ some l
    unfolding walk_from column is_dot attributes joined
    walk_column [] h = refl
    walk_column (a ∷ more) h =
        let rest = prefixed semicolon (map (written encode) more) in rw (written_no_dot a rest, walk_first a rest h.0)
        (walk_more a more h)

  -- ── the bytes that no column holds ────────────────────────────────────────────────────────────

  -- a byte that is barred and no sign of the format: tab, LF and CR are such
  module _ (c : ℕ) (out : bars c ≡ true) (sign : Lacks c (comma ∷ dot ∷ semicolon ∷ equals ∷ [])) where
    written_lacks : (a : Attribute) → Writable a → Lacks c (written encode a)
    unfolding written
    written_lacks a w =
        every_append (λ x. x ≢ c) (encode a.tag) (equals ∷ raw encode a) (coder.lacks c out a.tag w.tag_bytes) (
          sign.1.1.1.0,
          every_joined (λ x. x ≢ c) comma sign.0 (map encode a.values) (each_lacks c out a.values w.value_bytes),
        )

    pub column_lacks : (l : List Attribute) → Every Writable l → Lacks c (column encode l)
    unfolding column
    column_lacks [] h = (sign.1.0, tt)
    column_lacks (a ∷ more) h =
        every_joined (λ x. x ≢ c) semicolon sign.1.1.0 (map (written encode) (a ∷ more))
        (every_map (written encode) Writable (Lacks c) written_lacks (a ∷ more) h)
