-- The sheet that a line unfolds to is of the form: each of its counts fits four bytes, and each attribute has a value. Assumes nothing.
use Prim.Native.Nat.{ℕ, ◌≤◌}
use native.Mathlib.Omega.{arith}
use mathlib.Core.Path.{◌≡◌}
use mathlib.Core.Logic.{◌≢◌}
use mathlib.Core.List.{List, [], ◌∷◌, flat_map}
use Rattle.std.specs.Prelude.{Some}
use lib.ListN.{length, length-append}
use Rattle.base_lists.specs.Bytes.{Every, Bytes}
use Rattle.base_lists.specs.Limits.{most_line}
use Rattle.base_lists.proofs.EveryLaws.{every_each}
use Rattle.read_attributes.specs.Attributes.{Attribute}
use Rattle.read_attributes.specs.Written.{Writable}
use Rattle.sheet_form.specs.Sheet.{Sheet, section_of, attribute_of, sheet_of, sheet_read}
use Rattle.sheet_form.proofs.SheetLaws.{Count, Text, GoodAttribute, GoodSheet, read_of}
use Rattle.sheet_form.proofs.LengthLaws.{length_section, length_attribute, length_sheet, length_values, length_attributes}
use Rattle.read_judge.specs.Judge.{unfolded}
use Rattle.read_judge.proofs.SurveyLaws.{sheet_few}
use Rattle.promise_roundtrip.proofs.BytesLaws.{SheetBytes, unfolded_texts}

-- what holds of a thing whose length a count can say holds of each of several, where a count can say the length of all together
each_short : {A : Type 0} (w : A → List ℕ) (P Q : A → Type 0) → ((a : A) → Count (length (w a)) → P a → Q a) → (l : List A)
    → Count (length (flat_map w l)) → Every P l → Every Q l
unfolding flat_map
each_short w P Q k [] h p = tt
each_short w P Q k (a ∷ l) h p = let e = simp length-append at h in (k a (omega arith) p.0, each_short w P Q k l (omega arith) p.1)

-- ── parts of a sheet ──────────────────────────────────────────────────────────────────────────

text_good : (s : List ℕ) → Count (length (section_of s)) → Bytes s → Text s
text_good s h b = (omega (arith, length_section s), b)

attribute_good : (a : Attribute) → Count (length (attribute_of a)) → Writable a → GoodAttribute a
attribute_good a h w =
    let e = length_attribute a in
    let f = length_values a.values in
    record {
      good_tag = (omega arith, w.tag_bytes);
      good_values = ((omega arith, each_short section_of Bytes Text text_good a.values (omega arith) w.value_bytes), w.a_value);
    }

sheet_good : (s : Sheet) → Count (length (sheet_of s)) → SheetBytes s → GoodSheet s
sheet_good s h b =
    let e = length_sheet s in
    let l = s.attributes in
    let f = length_attributes l (every_each Writable (λ a. a.values ≢ []) (λ a w. w.a_value) l b.attributes_bytes) in
    record {
      good_name = (omega arith, b.name_bytes);
      good_source = (omega arith, b.source_bytes);
      good_type = (omega arith, b.type_bytes);
      good_score = (omega arith, b.score_bytes);
      good_attributes = (omega arith, each_short attribute_of Writable GoodAttribute attribute_good l (omega arith) b.attributes_bytes);
    }

-- ── the sheet of a line ───────────────────────────────────────────────────────────────────────

-- a line that is short enough to unfold makes no count that is too large for four bytes
pub unfolded_reads : (line : List ℕ) → Bytes line → length line ≤ most_line → sheet_read (sheet_of (unfolded line)) ≡ Some (unfolded line)
unfolded_reads line bytes short =
    read_of (unfolded line) (sheet_good (unfolded line) (omega (arith, sheet_few line)) (unfolded_texts line bytes))
