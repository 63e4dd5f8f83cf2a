-- A sheet reads back from its bytes; bytes that read as a sheet are those of the sheet that was read; and the bytes of a sheet are those
-- of no other. Assumes nothing.
use Prim.Native.Nat.{ℕ, zero, suc, ◌+◌, ◌*◌, ◌/◌, ◌%◌, ◌<◌}
use native.Mathlib.Omega.{arith}
use mathlib.Core.Path.{◌≡◌, refl, ap, ◌∙◌}
use mathlib.Core.Logic.{◌≢◌}
use mathlib.Core.List.{List, [], ◌∷◌, ◌++◌, flat_map, append_assoc, append-nil}
use Rattle.std.specs.Prelude.{Some}
use lib.ListN.{length}
use Rattle.base_lists.specs.Bytes.{Every, Bytes}
use Rattle.read_attributes.specs.Attributes.{Attribute}
use Rattle.sheet_form.specs.Reader.{Taken, no_form, took, Reader, onwards, byte, read_count, times, times_some, counted, counted_some}
use Rattle.sheet_form.specs.Sheet.{Sheet, section, read_attribute, read_sheet, ended, sheet_read, count_of, section_of, counted_of}
use Rattle.sheet_form.specs.Sheet.{attribute_of, sheet_of}

-- ── a kind of thing that is read and written ──────────────────────────────────────────────────

-- P holds of what was read and of what is left, if anything was
abbrev pub Of : {A : Type 0} → (A → List ℕ → Type 0) → Taken A → Type 0
Of P no_form = Unit {0}
Of P (took a t) = P a t

of_onwards : {A B : Type 0} (P : A → List ℕ → Type 0) (Q : B → List ℕ → Type 0) (m : Taken A) (f : A → Reader B)
    → Of P m → ((a : A) (t : List ℕ) → P a t → Of Q (f a t)) → Of Q (onwards m f)
of_onwards P Q no_form f p k = tt
of_onwards P Q (took a t) f p k = k a t p

-- a good thing a stands at the front of s, and t is left
pub record Front {A : Type 0} (Good : A → Type 0) (w : A → List ℕ) (s : List ℕ) (a : A) (t : List ℕ) : Type 0 where
  pub good : Good a
  pub whole : s ≡ w a ++ t
  pub rest : Bytes t

front_map : {A : Type 0} (G H : A → Type 0) (w : A → List ℕ) (s : List ℕ) (m : Taken A) → Of (Front G w s) m → ((a : A) → G a → H a)
    → Of (Front H w s) m
front_map G H w s no_form p k = tt
front_map G H w s (took a t) p k = record { good = k a p.good; whole = p.whole; rest = p.rest }

-- r reads what w writes of the good things, and nothing else
pub record Codes {A : Type 0} (Good : A → Type 0) (w : A → List ℕ) (r : Reader A) : Type 0 where
  pub back : (a : A) (s : List ℕ) → Good a → r (w a ++ s) ≡ took a s
  pub only : (s : List ℕ) → Bytes s → Of (Front Good w s) (r s)

-- ── bytes and counts ──────────────────────────────────────────────────────────────────────────

byte_only : (s : List ℕ) → Bytes s → Of (Front (λ x. x < 256) (λ x. x ∷ []) s) (byte s)
byte_only [] h = tt
byte_only (x ∷ s) h = record { good = h.0; whole = refl; rest = h.1 }

byte_codes : Codes (λ x. x < 256) (λ x. x ∷ []) byte
byte_codes = record { back = λ x s h. refl; only = byte_only }

-- a number of four bytes
abbrev pub Count : ℕ → Type 0
Count n = n < 4294967296

count_back : (n : ℕ) (s : List ℕ) → Count n → read_count (count_of n ++ s) ≡ took n s
unfolding read_count count_of
count_back n s h =
    let e : n / 16777216 % 256 ≡ n / 16777216 = omega arith in
    rw e (ap (λ (k : ℕ). took k s) (omega arith))

count_only : (s : List ℕ) → Bytes s → Of (Front Count count_of s) (read_count s)
unfolding read_count count_of
count_only [] h = tt
count_only (a ∷ []) h = tt
count_only (a ∷ b ∷ []) h = tt
count_only (a ∷ b ∷ c ∷ []) h = tt
count_only (a ∷ b ∷ c ∷ d ∷ s) h =
    let n = a + 256 * b + 65536 * (c + 256 * d) in
    let q₁ : n / 256 ≡ b + 256 * (c + 256 * d) = omega arith in
    let q₂ : n / 65536 ≡ c + 256 * d = omega arith in
    let q₃ : n / 16777216 ≡ d = omega arith in
    let e₀ : n % 256 ≡ a = omega arith in
    let e₁ : n / 256 % 256 ≡ b = rw q₁ (omega arith) in
    let e₂ : n / 65536 % 256 ≡ c = rw q₂ (omega arith) in
    let e₃ : n / 16777216 % 256 ≡ d = rw q₃ (omega arith) in
    record { good = omega arith; whole = rw (e₀, e₁, e₂, e₃); rest = h.1.1.1.1 }

-- ── things after their count ──────────────────────────────────────────────────────────────────

-- as many as a count can say, each of them good
abbrev pub Counted : {A : Type 0} → (A → Type 0) → List A → Type 0
Counted Good l = Count (length l) × Every Good l

-- so, and one at least
abbrev pub SomeCounted : {A : Type 0} → (A → Type 0) → List A → Type 0
SomeCounted Good l = Counted Good l × (l ≢ [])

-- one front after another
next : (s t u x y : List ℕ) → s ≡ x ++ t → t ≡ y ++ u → s ≡ (x ++ y) ++ u
next s t u x y p q = p ∙ rw (q, append_assoc)

module _ {A : Type 0} {Good : A → Type 0} {w : A → List ℕ} {r : Reader A} (codes : Codes Good w r) where
  times_back : (l : List A) (s : List ℕ) → Every Good l → times r (length l) (flat_map w l ++ s) ≡ took l s
  unfolding times flat_map
  times_back [] s h = refl
  times_back (a ∷ l) s h = rw (append_assoc (w a) (flat_map w l) s, codes.back a (flat_map w l ++ s) h.0, times_back l s h.1)

  times_only : (n : ℕ) (s : List ℕ) → Bytes s → Of (Front (λ l. Every Good l × (length l ≡ n)) (flat_map w) s) (times r n s)
  unfolding times flat_map
  times_only zero s h = record { good = (tt, refl); whole = refl; rest = h }
  times_only (suc n) s h =
      of_onwards (Front Good w s) _ (r s) _ (codes.only s h)
      (λ a t p. of_onwards (Front (λ l. Every Good l × (length l ≡ n)) (flat_map w) t) _ (times r n t) _ (times_only n t p.rest)
      (λ l u q. record {
        good = ((p.good, q.good.0), ap suc q.good.1);
        whole = next s t u (w a) (flat_map w l) p.whole q.whole;
        rest = q.rest;
      }))

  -- so many things after the count n
  front_counted : (n : ℕ) (s t : List ℕ) → Front Count count_of s n t
      → Of (Front (λ l. Counted Good l × (length l ≡ n)) (counted_of w) s) (times r n t)
  unfolding counted_of
  front_counted n s t p = go (times r n t) (times_only n t p.rest)
    where
      go : (m : Taken (List A)) → Of (Front (λ l. Every Good l × (length l ≡ n)) (flat_map w) t) m
          → Of (Front (λ l. Counted Good l × (length l ≡ n)) (counted_of w) s) m
      go no_form q = tt
      go (took l u) q =
          let e = q.good.1 in
          record {
            good = ((rw e p.good, q.good.0), e);
            whole = rw e (next s t u (count_of n) (flat_map w l) p.whole q.whole);
            rest = q.rest;
          }

  counted_codes : Codes (Counted Good) (counted_of w) (counted r)
  unfolding counted counted_of
  counted_codes = record {
    back =
        λ l s h. rw (append_assoc (count_of (length l)) (flat_map w l) s, count_back (length l) (flat_map w l ++ s) h.0)
        (times_back l s h.1);
    only = λ s h. of_onwards (Front Count count_of s) _ (read_count s) _ (count_only s h)
        (λ n t p. front_map (λ l. Counted Good l × (length l ≡ n)) _ _ s (times r n t) (front_counted n s t p) (λ l g. g.0));
  }

  some_back : (l : List A) (s : List ℕ) → SomeCounted Good l → times_some r (length l) (flat_map w l ++ s) ≡ took l s
  unfolding times_some
  some_back [] s h = absurd (h.1 refl)
  some_back (a ∷ l) s h = times_back (a ∷ l) s h.0.1

  some_only : (n : ℕ) (s t : List ℕ) → Front Count count_of s n t → Of (Front (SomeCounted Good) (counted_of w) s) (times_some r n t)
  unfolding times_some
  some_only zero s t p = tt
  some_only (suc n) s t p =
      front_map (λ l. Counted Good l × (length l ≡ suc n)) _ _ s (times r (suc n) t) (front_counted (suc n) s t p)
      (λ l g. (g.0, λ e. absurd (omega (arith, g.1, ap length e))))

  some_codes : Codes (SomeCounted Good) (counted_of w) (counted_some r)
  unfolding counted_some counted_of
  some_codes = record {
    back =
        λ l s h. rw (append_assoc (count_of (length l)) (flat_map w l) s, count_back (length l) (flat_map w l ++ s) h.0.0)
        (some_back l s h);
    only = λ s h. of_onwards (Front Count count_of s) _ (read_count s) _ (count_only s h) (λ n t p. some_only n s t p);
  }

-- ── what a sheet is made of ───────────────────────────────────────────────────────────────────

-- bytes, and as many as a count can say
abbrev pub Text : List ℕ → Type 0
Text s = Counted (λ x. x < 256) s

-- each byte by itself is the text
flat_bytes : (s : List ℕ) → flat_map (λ x. x ∷ []) s ≡ s
unfolding flat_map
flat_bytes [] = refl
flat_bytes (x ∷ s) = ap (λ (t : List ℕ). x ∷ t) (flat_bytes s)

section_counted : (s : List ℕ) → counted_of (λ x. x ∷ []) s ≡ section_of s
unfolding counted_of section_of
section_counted s = rw (flat_bytes s)

section_codes : Codes Text section_of section
section_codes =
    let codes = counted_codes byte_codes in
    record {
      back = λ a s g. rw (← section_counted a) (codes.back a s g);
      only = λ s h. go s (section s) (codes.only s h);
    }
  where
    go : (s : List ℕ) (m : Taken (List ℕ)) → Of (Front Text (counted_of (λ x. x ∷ [])) s) m → Of (Front Text section_of s) m
    go s no_form p = tt
    go s (took a t) p = record { good = p.good; whole = rw (section_counted a) at p.whole; rest = p.rest }

values_codes : Codes (SomeCounted Text) (counted_of section_of) (counted_some section)
values_codes = some_codes section_codes

pub record GoodAttribute (a : Attribute) : Type 0 where
  pub good_tag : Text a.tag
  pub good_values : SomeCounted Text a.values

attribute_codes : Codes GoodAttribute attribute_of read_attribute
unfolding read_attribute attribute_of
attribute_codes = record {
  back = λ a s g. simp (append_assoc, section_codes.back, values_codes.back, g.good_tag, g.good_values);
  only = λ s h. of_onwards (Front Text section_of s) _ (section s) _ (section_codes.only s h)
      (λ tag t p. of_onwards (Front (SomeCounted Text) (counted_of section_of) t) _ (counted_some section t) _
      (values_codes.only t p.rest)
      (λ vs u q. record {
        good = record { good_tag = p.good; good_values = q.good };
        whole = next s t u (section_of tag) (counted_of section_of vs) p.whole q.whole;
        rest = q.rest;
      }));
}

attributes_codes : Codes (Counted GoodAttribute) (counted_of attribute_of) (counted read_attribute)
attributes_codes = counted_codes attribute_codes

-- each text is bytes, each count fits four bytes, and each attribute has a value
pub record GoodSheet (s : Sheet) : Type 0 where
  pub good_name : Text s.name
  pub good_source : Text s.source
  pub good_type : Text s.type
  pub good_score : Text s.score
  pub good_attributes : Counted GoodAttribute s.attributes

pub sheet_codes : Codes GoodSheet sheet_of read_sheet
unfolding read_sheet sheet_of
sheet_codes = record {
  back =
      λ a s g. simp (append_assoc, section_codes.back, attributes_codes.back, g.good_name, g.good_source, g.good_type, g.good_score, g.good_attributes);
  only = λ s h. of_onwards (Front Text section_of s) _ (section s) _ (section_codes.only s h)
      (λ n s₁ p₁. of_onwards (Front Text section_of s₁) _ (section s₁) _ (section_codes.only s₁ p₁.rest)
      (λ o s₂ p₂. of_onwards (Front Text section_of s₂) _ (section s₂) _ (section_codes.only s₂ p₂.rest)
      (λ t s₃ p₃. of_onwards (Front Text section_of s₃) _ (section s₃) _ (section_codes.only s₃ p₃.rest)
      (λ c s₄ p₄. of_onwards (Front (Counted GoodAttribute) (counted_of attribute_of) s₄) _ (counted read_attribute s₄) _
      (attributes_codes.only s₄ p₄.rest)
      (λ l s₅ p₅. record {
        good = record { good_name = p₁.good; good_source = p₂.good; good_type = p₃.good; good_score = p₄.good; good_attributes = p₅.good };
        whole = simp append_assoc (cc);
        rest = p₅.rest;
      })))));
}

-- ── the promises ──────────────────────────────────────────────────────────────────────────────

-- a sheet reads back
pub read_of : (a : Sheet) → GoodSheet a → sheet_read (sheet_of a) ≡ Some a
unfolding ended
read_of a g = rw (← append-nil (sheet_of a), sheet_codes.back a [] g)

-- bytes that read as a sheet are those of the sheet that was read
pub of_read : (s : List ℕ) (a : Sheet) → Bytes s → sheet_read s ≡ Some a → GoodSheet a × (s ≡ sheet_of a)
unfolding ended
of_read s a h e = go (read_sheet s) (sheet_codes.only s h) e
  where
    go : (m : Taken Sheet) → Of (Front GoodSheet sheet_of s) m → ended m ≡ Some a → GoodSheet a × (s ≡ sheet_of a)
    go no_form p e = cc
    go (took b []) p e = let q : b ≡ a = cc in (rw q at p.good, rw q at (p.whole ∙ append-nil (sheet_of b)))
    go (took b (x ∷ t)) p e = cc

-- and those of no other
pub sheet_of_one : (a b : Sheet) → GoodSheet a → GoodSheet b → sheet_of a ≡ sheet_of b → a ≡ b
sheet_of_one a b g h e = let p = read_of a g in let q = read_of b h in cc
