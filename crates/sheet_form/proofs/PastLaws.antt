-- Passing a part of a sheet: one part after another, many of a kind, and the end. Assumes nothing.
use native.Mathlib.Omega.{arith}
use native.Mathlib.Numerals.{add-one}
use mathlib.Core.Path.{◌≡◌, refl, ap, ◌∙◌}
use mathlib.Core.List.{List, [], ◌∷◌}
use mathlib.Core.Bool.{true, false}
use Prim.Native.Nat.{ℕ, zero, suc, ◌+◌, ◌≤◌, ◌<◌}
use Rattle.std.specs.Prelude.{Option, Some, None, is_some}
use lib.Dec.{eqb}
use lib.ListN.{length, drop, length-drop, drop_of_length-le}
use borrow.Author.Tests.{eq-eqb, ne_eqb}
use Rattle.sheet_form.specs.Reader.{Taken, no_form, took, Reader, onwards, read_count, times, times_some, counted, counted_some}
use Rattle.read_attributes.specs.Attributes.{Attribute}
use Rattle.sheet_form.specs.Sheet.{Sheet, section, read_attribute, read_sheet, ended}
use Rattle.sheet_form.specs.Inner.Past.{Passes, stopped, past}
use Rattle.sheet_form.proofs.CursorLaws.{CountHands}

module _ {s : List ℕ} where
  -- what is made of what was read is nothing to the cursor
  pub past_map : {A B : Type 0} {P : A → Type 0} {Q : B → Type 0} (f : A → B) {r : Option ℕ} {m : Taken A} → ((a : A) → P a → Q (f a))
      → Passes P s r m → Passes Q s r (onwards m (λ a. took (f a)))
  past_map f k stopped = stopped
  past_map f k (past {a} h e p) = past h e (k a p)

  -- what else is known of what was read
  pub past_also : {A : Type 0} {P X : A → Type 0} {r : Option ℕ} {m : Taken A} → ((a : A) (rest : List ℕ) → m ≡ took a rest → X a)
      → Passes P s r m → Passes (λ a. P a × X a) s r m
  past_also k stopped = stopped
  past_also k (past {a} {rest} h e p) = past h e (p, k a rest refl)

  pub past_weaken : {A : Type 0} {P Q : A → Type 0} {r : Option ℕ} {m : Taken A} → ((a : A) → P a → Q a) → Passes P s r m → Passes Q s r m
  past_weaken k stopped = stopped
  past_weaken k (past {a} h e p) = past h e (k a p)

  -- behind what was read the cursor is inside the text
  pub past_inside : {A : Type 0} {P : A → Type 0} {k : ℕ} {r : Option ℕ} {m : Taken A} → Passes P s r m → r ≡ Some k → k ≤ length s
  past_inside stopped e = absurd cc
  past_inside {k = k} (past {r = r} h f p) e = let same : r ≡ k = cc in rw same at h

  -- one part after another
  pub past_then : {A B : Type 0} {P : A → Type 0} {Q : B → Type 0} {k : ℕ} {r q : Option ℕ} {m : Taken A} (f : A → Reader B)
      → Passes P s r m → r ≡ Some k → ((a : A) → P a → Passes Q s q (f a (drop k s))) → Passes Q s q (onwards m f)
  past_then f stopped e q = absurd cc
  past_then {k = k} f (past {a} {r = r} h d p) e q = let same : r ≡ k = cc in rw (d, same) (q a p)

  -- where a part is not of the form, what has it in front is not, either
  pub past_stop : {A B : Type 0} {P : A → Type 0} {Q : B → Type 0} {r : Option ℕ} {m : Taken A} (f : A → Reader B)
      → Passes P s r m → r ≡ None → Passes Q s None (onwards m f)
  past_stop f stopped e = stopped
  past_stop f (past h d p) e = absurd cc

-- ── many of a kind ────────────────────────────────────────────────────────────────────────────

module _ {A : Type 0} (read : Reader A) {s : List ℕ} {P : A → Type 0} where
  -- the first is passed, and the others are left
  pub past_next : {Q R : List A → Type 0} {q r : Option ℕ} {k : ℕ} (left n at : ℕ) → left ≡ n + 1
      → ((a : A) (more : List A) → P a → Q more → R (a ∷ more))
      → Passes P s q (read (drop at s)) → q ≡ Some k → Passes Q s r (times read n (drop k s)) → Passes R s r (times read left (drop at s))
  unfolding times
  past_next left n at e join p h q =
      rw (e, add-one) (past_then _ p h (λ a x. past_map (λ more. a ∷ more) (λ more y. join a more x y) q))

  -- the first is not of the form
  pub past_stuck : {R : List A → Type 0} {q : Option ℕ} (left n at : ℕ) → left ≡ n + 1 → Passes P s q (read (drop at s)) → q ≡ None
      → Passes R s None (times read left (drop at s))
  unfolding times
  past_stuck left n at e p h = rw (e, add-one) (past_stop _ p h)

-- so many as were asked for
pub times_length : {A : Type 0} (read : Reader A) (n : ℕ) (t : List ℕ) (l : List A) (rest : List ℕ) → times read n t ≡ took l rest
    → length l ≡ n
unfolding times
times_length read zero t l rest e = let z : l ≡ [] = cc in rw z
times_length {A} read (suc n) t l rest e = first (λ u more v. times_length read n u more v) (read t) e
  where
    others : (a : A) (m : Taken (List A)) → ((more : List A) (u : List ℕ) → m ≡ took more u → length more ≡ n)
        → onwards m (λ more. took (a ∷ more)) ≡ took l rest → length l ≡ suc n
    others a no_form k e = let z : ◌≡◌ {A = ℕ} 0 1 = cc in absurd (omega arith)
    others a (took more u) k e = let z : l ≡ a ∷ more = cc in rw z (ap suc (k more u refl))

    first : ((u : List ℕ) (more : List A) (v : List ℕ) → times read n u ≡ took more v → length more ≡ n) → (m : Taken A)
        → onwards m (λ a u. onwards (times read n u) (λ more. took (a ∷ more))) ≡ took l rest → length l ≡ suc n
    first k no_form e = let z : ◌≡◌ {A = ℕ} 0 1 = cc in absurd (omega arith)
    first k (took a u) e = others a (times read n u) (k u) e

-- none is left
pub past_all : {A : Type 0} (read : Reader A) {s : List ℕ} {Q : List A → Type 0} (left at : ℕ) → left ≡ 0 → at ≤ length s → Q []
    → Passes Q s (Some at) (times read left (drop at s))
unfolding times
past_all read left at e h q = rw e (past h refl q)

-- ── the parts of a sheet ──────────────────────────────────────────────────────────────────────

module _ (s : List ℕ) (at : ℕ) {r : Option ℕ} where
  -- values after their count
  pub past_some : {Q : List (List ℕ) → Type 0} {n next : ℕ} → CountHands s at n next → 1 ≤ n → Passes Q s r (times section n (drop next s))
      → Passes Q s r (counted_some section (drop at s))
  unfolding counted_some times_some
  past_some {Q} {n} {next} h l p = rw h.read (go n l p)
    where
      go : (n : ℕ) → 1 ≤ n → Passes Q s r (times section n (drop next s)) → Passes Q s r (times_some section n (drop next s))
      go zero l p = absurd (omega arith)
      go (suc n) l p = p

  -- attributes after their count
  pub past_counted : {Q : List Attribute → Type 0} {n next : ℕ} → CountHands s at n next
      → Passes Q s r (times read_attribute n (drop next s))
      → Passes Q s r (counted read_attribute (drop at s))
  unfolding counted
  past_counted h p = rw h.read p

module _ (s : List ℕ) (at : ℕ) where
  -- a value count of 0
  pub past_zero : {Q : List (List ℕ) → Type 0} {n next : ℕ} → CountHands s at n next → n < 1
      → Passes Q s None (counted_some section (drop at s))
  unfolding counted_some times_some
  past_zero {Q} {n} {next} h z = let e : n ≡ 0 = omega arith in rw (h.read, e) stopped

  -- a cut-off one
  pub past_cut : {Q : List (List ℕ) → Type 0} → read_count (drop at s) ≡ no_form → Passes Q s None (counted_some section (drop at s))
  unfolding counted_some
  past_cut e = rw e stopped

  -- a cut-off count of attributes
  pub past_uncounted : {Q : List Attribute → Type 0} → read_count (drop at s) ≡ no_form
      → Passes Q s None (counted read_attribute (drop at s))
  unfolding counted
  past_uncounted e = rw e stopped

  -- a tag and its values
  pub past_attribute : {P : List ℕ → Type 0} {Q : List (List ℕ) → Type 0} {R : Attribute → Type 0} {q r : Option ℕ} {tag : ℕ}
      → ((t : List ℕ) (vs : List (List ℕ)) → P t → Q vs → R (record { tag = t; values = vs }))
      → Passes P s q (section (drop at s)) → q ≡ Some tag → Passes Q s r (counted_some section (drop tag s))
      → Passes R s r (read_attribute (drop at s))
  unfolding read_attribute
  past_attribute join p e q =
      past_then _ p e (λ t x. past_map (λ vs. record { tag = t; values = vs }) (λ vs y. join t vs x y) q)

  -- no tag
  pub past_untagged : {P : List ℕ → Type 0} {R : Attribute → Type 0} {q : Option ℕ} → Passes P s q (section (drop at s)) → q ≡ None
      → Passes R s None (read_attribute (drop at s))
  unfolding read_attribute
  past_untagged p e = past_stop _ p e

-- ── the end ───────────────────────────────────────────────────────────────────────────────────

-- the whole is of the form where the cursor behind what was read is the end
pub past_ended : {A : Type 0} {P : A → Type 0} (s : List ℕ) {k : ℕ} {r : Option ℕ} {m : Taken A} → Passes P s r m → r ≡ Some k
    → eqb k (length s) ≡ is_some (ended m)
unfolding ended
past_ended s stopped q = absurd cc
past_ended s {k} (past {rest = []} {r} h e p) q =
    let same : r ≡ k = cc in eq-eqb k (length s) (omega (arith, ap length e, length-drop r s, same))
past_ended s {k} (past {rest = x ∷ rest} {r} h e p) q =
    let same : r ≡ k = cc in ne_eqb k (length s) (λ w. omega (arith, ap length e, length-drop r s, same))

-- and is not where none was answered
pub past_unended : {A : Type 0} {P : A → Type 0} {s : List ℕ} {r : Option ℕ} {m : Taken A} → Passes P s r m → r ≡ None
    → false ≡ is_some (ended m)
unfolding ended
past_unended stopped q = refl
past_unended (past h e p) q = absurd cc

-- what the whole was read as, if it was all that there is
pub past_whole : {A : Type 0} {P : A → Type 0} {s : List ℕ} {r : Option ℕ} {m : Taken A} → Passes P s r m → (a : A) → ended m ≡ Some a → P a
unfolding ended
past_whole stopped a e = cc
past_whole (past {a = x} {rest = []} h q p) a e = let z : x ≡ a = cc in rw z at p
past_whole (past {rest = x ∷ rest} h q p) a e = cc

-- ── what a sheet's texts were read as ─────────────────────────────────────────────────────────

then_whole : {A B : Type 0} {P : A → Type 0} {s : List ℕ} {k : ℕ} {r : Option ℕ} {m : Taken A} (f : A → Reader B) → Passes P s r m
    → r ≡ Some k → (b : B) → ended (onwards m f) ≡ Some b
    → (a : A) × P a × (ended (f a (drop k s)) ≡ Some b)
unfolding ended
then_whole f stopped h b e = cc
then_whole {k = k} f (past {a} {r = r} l q p) h b e = let same : r ≡ k = cc in (a, p, rw (q, same) at e)

sheet_last : {n o t c : List ℕ} (sheet : Sheet) (m : Taken (List Attribute))
    → ended (onwards m (λ l. took (record { name = n; source = o; type = t; score = c; attributes = l }))) ≡ Some sheet
    → (n ≡ sheet.name) × (o ≡ sheet.source) × (t ≡ sheet.type) × (c ≡ sheet.score)
unfolding ended
sheet_last sheet no_form e = cc
sheet_last {n} {o} {t} {c} sheet (took l []) e =
    let z : record { name = n; source = o; type = t; score = c; attributes = l } ≡ sheet = cc in
    (ap (λ (x : Sheet). x.name) z, ap (λ (x : Sheet). x.source) z, ap (λ (x : Sheet). x.type) z, ap (λ (x : Sheet). x.score) z)
sheet_last sheet (took l (x ∷ rest)) e = cc

pub texts_read : {s : List ℕ} {a b c d : ℕ} {N O T C : List ℕ → Type 0}
    → Passes N s (Some a) (section s) → Passes O s (Some b) (section (drop a s)) → Passes T s (Some c) (section (drop b s))
    → Passes C s (Some d) (section (drop c s))
    → (sheet : Sheet) → ended (read_sheet s) ≡ Some sheet → N sheet.name × O sheet.source × T sheet.type × C sheet.score
unfolding read_sheet
texts_read {s} {a} {b} {c} {d} pa pb pc pd sheet e =
    let n = then_whole _ pa refl sheet e in
    let o = then_whole _ pb refl sheet n.2 in
    let t = then_whole _ pc refl sheet o.2 in
    let k = then_whole _ pd refl sheet t.2 in
    let z = sheet_last {n = n.0} {o = o.0} {t = t.0} {c = k.0} sheet (counted read_attribute (drop d s)) k.2 in
    (rw z.0 at n.1, rw z.1 at o.1, rw z.2 at t.1, rw z.3 at k.1)
