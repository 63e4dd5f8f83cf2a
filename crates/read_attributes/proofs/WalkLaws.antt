-- Laws of the walk over column 9: how it goes on at a cursor, what a step means for it, and that steps in a row meet exactly what it
-- meets. A step is a function of the column and the cursor, so after a refusal, which moves no cursor, the next step answers the same.
-- Assumes nothing.
use Prim.Native.Nat.{ℕ, zero, suc, ◌+◌, ◌-◌, ◌*◌, ◌≤◌, ◌<◌, min}
use native.Mathlib.Omega.{arith}
use native.Mathlib.Nat.{eq-or-lt_of_le}
use mathlib.Core.Path.{◌≡◌, refl, sym, ap, ◌∙◌}
use mathlib.Core.Logic.{◌⊎◌, inl, inr, ⊎_elim}
use mathlib.Core.Bool.{Bool, true, false, cond}
use mathlib.Core.List.{List, [], ◌∷◌, ◌++◌, append_assoc, append-nil}
use lib.Dec.{eqb, leb}
use lib.ListN.{length, take, drop, length-drop, drop_of_length-le}
use lib.Seq.{take-length}
use borrow.Author.Tests.{ne_eqb, leb-true, leb-false, eqb-true, eqb-false}
use Rattle.base_lists.specs.Bytes.{Lacks, semicolon, equals}
use Rattle.base_words.specs.Same.{is_dot}
use Rattle.base_scan.specs.Find.{index, is, found}
use Rattle.base_scan.specs.Part.{part, text_at}
use Rattle.base_scan.proofs.FindLaws.{index_le, seek_at, seek_le, seek_ge, lacks_before, cut_at, lacks_all}
use Rattle.base_scan.proofs.PartLaws.{length_part, part_found, drop_found}
use Rattle.read_values.proofs.ValueLaws.{drop_clipped}
use Rattle.read_attributes.specs.declared.field.Field.{Field}
use Rattle.std.specs.Prelude.{Option, Some, None, Result, Ok, Err}
use Rattle.std.specs.Result.{result_unwrap_or}
use Rattle.base_refusals.specs.declared.Refusal.{Refusal}
use Rattle.base_refusals.specs.declared.Refusal.TheVariants as refusal
use Rattle.read_attributes.specs.Attributes.{done, refused, then, tag_after, value_after, walk_from}
use Rattle.read_attributes.specs.Step.{field_to, next_field, field_then, field_steps}

-- ── a text that begins with a tag or a value ──────────────────────────────────────────────────

-- bytes that do not end a tag belong to it
pub tag_begin : (t s tag : List ℕ) → Lacks equals t → tag_after tag (t ++ s) ≡ tag_after (tag ++ t) s
unfolding tag_after
tag_begin [] s tag h = rw append-nil
tag_begin (x ∷ t) s tag h = rw (ne_eqb x equals h.0, tag_begin t s (tag ++ (x ∷ [])) h.1, append_assoc)

-- and so for a value
pub value_begin : (v s tag value : List ℕ) → Lacks semicolon v → value_after tag value (v ++ s) ≡ value_after tag (value ++ v) s
unfolding value_after
value_begin [] s tag value h = rw append-nil
value_begin (x ∷ v) s tag value h = rw (ne_eqb x semicolon h.0, value_begin v s tag (value ++ (x ∷ [])) h.1, append_assoc)

-- one attribute, and what follows
pub walk_attribute : (t v s : List ℕ) → Lacks equals t → Lacks semicolon v → tag_after [] ((t ++ equals ∷ v) ++ s) ≡ value_after t v s
unfolding tag_after
walk_attribute t v s ht hv = rw append_assoc (tag_begin t (equals ∷ (v ++ s)) [] ht ∙ value_begin v s t [] hv)

-- ── where `=` and `;` are looked for ──────────────────────────────────────────────────────────

-- a tag runs to the next `=`
walk_cut : (s : List ℕ) → let k = index (is equals) s in k < length s → tag_after [] s ≡ value_after (take k s) [] (drop (suc k) s)
unfolding tag_after
walk_cut s h =
    let k = index (is equals) s in
    ap (tag_after []) (cut_at equals s h) ∙ tag_begin (take k s) (equals ∷ drop (suc k) s) [] (lacks_before equals s)

-- text without `=` is refused
walk_uncut : (s : List ℕ) → 0 < length s → index (is equals) s ≡ length s → tag_after [] s ≡ refused
unfolding tag_after
walk_uncut [] h e = absurd (omega arith)
walk_uncut (x ∷ s) h e = ap (tag_after []) (sym (append-nil (x ∷ s))) ∙ tag_begin (x ∷ s) [] [] (lacks_all equals (x ∷ s) e)

-- a value runs to the next `;` or the end, and a walk behind the end is done
value_cut : (tag s : List ℕ) → let k = index (is semicolon) s in value_after tag [] s ≡ then tag (take k s) (tag_after [] (drop (suc k) s))
unfolding tag_after
value_cut tag s =
    let k = index (is semicolon) s in
    ⊎_elim
    (λ e.
    ap (value_after tag []) (sym (append-nil s))
    ∙ value_begin s [] tag [] (lacks_all semicolon s e)
    ∙ rw (e, take-length s, drop_of_length-le s {i = suc (length s)} (omega arith)))
    (λ h. ap (value_after tag []) (cut_at semicolon s h) ∙ value_begin (take k s) (semicolon ∷ drop (suc k) s) tag [] (lacks_before semicolon s))
    (eq-or-lt_of_le (index_le (is semicolon) s))

-- from a cursor beyond the column on the walk is the one from its end on
pub walk_clipped : (s : List ℕ) (at : ℕ) → walk_from s (min at (length s)) ≡ walk_from s at
unfolding walk_from
walk_clipped s at = rw (← drop_clipped at s)

module _ (s : List ℕ) (at : ℕ) where
  -- one attribute from a cursor on, and what follows
  pub walk_next : at ≤ length s
      → let e = found equals at s in
      let v = found semicolon (e + 1) s in
      e < length s → tag_after [] (drop at s) ≡ then (part at e s) (part (e + 1) v s) (tag_after [] (drop (v + 1) s))
  walk_next h l =
      let e = found equals at s in
      walk_cut (drop at s) (omega (arith, seek_at (is equals) at s h, length-drop at s))
      ∙ rw (part_found equals at s h, drop_found equals at s h)
      (value_cut (part at e s) (drop (e + 1) s) ∙ rw (
        part_found semicolon (e + 1) s (omega arith),
        drop_found semicolon (e + 1) s (omega arith),
      ))

  -- text from a cursor on without `=`
  pub walk_stuck : at < length s → found equals at s ≡ length s → tag_after [] (drop at s) ≡ refused
  walk_stuck h e =
      walk_uncut (drop at s) (simp length-drop (omega arith)) (omega (arith, seek_at (is equals) at s (omega arith), length-drop at s))

  -- nothing is left at the end, and beyond it
  pub walk_past : length s ≤ at → walk_from s at ≡ done
  unfolding walk_from tag_after
  walk_past h = rw (drop_of_length-le s h) (go (is_dot s))
    where
      go : (d : Bool) → cond d done done ≡ done
      go true = refl
      go false = refl

  -- ── one step ────────────────────────────────────────────────────────────────────────────────

  -- the walk meets the attribute that a step hands out, and stands at the next cursor then; its places by the lengths of its texts
  pub record Hands (field : Field) : Type 0 where
    pub met : walk_from s at ≡ then (text_at field.tag s) (text_at field.value s) (walk_from s field.next)
    pub tag_start : field.tag.start ≡ at
    pub tag_end : field.tag.end ≡ at + length (text_at field.tag s)
    pub value_start : field.value.start ≡ at + length (text_at field.tag s) + 1
    pub value_end : field.value.end ≡ field.value.start + length (text_at field.value s)
    pub next : field.next ≡ min (field.value.end + 1) (length s)
    pub inside : field.value.end ≤ length s

  -- what an answer says of the walk from a cursor on
  abbrev pub Meets : Result (Option Field) Refusal → Type 0
  Meets (Ok None) = walk_from s at ≡ done
  Meets (Err r) = (r ≡ refusal.Attribute) × (walk_from s at ≡ refused)
  Meets (Ok (Some field)) = Hands field

  attribute_meets : is_dot s ≡ false → at < length s → found equals at s < length s → Hands (field_to s at (found equals at s))
  unfolding walk_from
  attribute_meets p h i =
      let e = found equals at s in
      let v = found semicolon (e + 1) s in
      let t = length_part at e s (omega arith) in
      let g = seek_ge (is equals) at s (omega arith) in
      record {
        met = rw (walk_clipped s (v + 1), p) (walk_next (omega arith) i);
        tag_start = refl;
        tag_end = omega arith;
        value_start = omega arith;
        value_end = omega (
          arith,
          length_part (e + 1) v s (seek_le (is semicolon) (e + 1) s),
          seek_ge (is semicolon) (e + 1) s (omega arith),
        );
        next = refl;
        inside = seek_le (is semicolon) (e + 1) s;
      }

  pub field_meets : Meets (next_field s at)
  unfolding next_field walk_from
  field_meets = go (is_dot s) refl (leb (length s) at) refl (eqb (found equals at s) (length s)) refl
    where
      go : (d : Bool) → is_dot s ≡ d → (l : Bool) → leb (length s) at ≡ l → (e : Bool) → eqb (found equals at s) (length s) ≡ e
          → Meets (cond d (Ok None) (cond l (Ok None) (cond e (Err refusal.Attribute) (Ok (Some (field_to s at (found equals at s)))))))
      go true p l q e r = rw p
      go false p true q e r = walk_past (leb-true (length s) at q)
      go false p false q true r = (refl, rw p (walk_stuck (leb-false (length s) at q) (eqb-true (found equals at s) (length s) r)))
      go false p false q false r =
          attribute_meets p (leb-false (length s) at q)
          (omega (arith, eqb-false (found equals at s) (length s) r, seek_le (is equals) at s))

  -- what a step answered, as its caller has it
  pub meets : {r k : Result (Option Field) Refusal} → r ≡ next_field s at → r ≡ k → Meets k
  meets e f = rw (← f, e) field_meets

  -- where a refusal counts as an end
  abbrev pub Leads : Option Field → Type 0
  Leads None = (walk_from s at ≡ done) ⊎ (walk_from s at ≡ refused)
  Leads (Some field) = Hands field

  leads_by : (r : Result (Option Field) Refusal) → Meets r → Leads (result_unwrap_or r None)
  leads_by (Ok None) m = inl m
  leads_by (Err r) m = inr m.1
  leads_by (Ok (Some field)) m = m

  pub leads : {r : Result (Option Field) Refusal} {k m : Option Field} → r ≡ next_field s at → k ≡ result_unwrap_or r None → k ≡ m
      → Leads m
  leads {r} e f g = rw (← g, f) (leads_by r (meets e refl))

-- ── steps in a row ────────────────────────────────────────────────────────────────────────────

-- half as many steps as there are bytes from a cursor on, or more, meet exactly what the walk meets: each attribute takes two bytes at
-- least, and the last one, which may be a `=` alone, takes one
pub fields_met : (n : ℕ) (s : List ℕ) (at : ℕ) → length s - at ≤ 2 * n → field_steps n s at ≡ walk_from s at
unfolding field_steps
fields_met zero s at h = sym (walk_past s at (omega arith))
fields_met (suc n) s at h = go (next_field s at) (field_meets s at) (fields_met n s)
  where
    go : (r : Result (Option Field) Refusal) → Meets s at r → ((next : ℕ) → length s - next ≤ 2 * n → field_steps n s next ≡ walk_from s next)
        → field_then s r (field_steps n s) ≡ walk_from s at
    go (Ok None) m rest = sym m
    go (Err r) m rest = sym m.1
    go (Ok (Some field)) m rest = rw (rest field.next (omega arith)) (sym m.met)
