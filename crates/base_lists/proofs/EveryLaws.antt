-- Laws of `Every`. Assumes nothing.
use Prim.Native.Nat.{ℕ, suc, ◌<◌}
use mathlib.Core.Path.{◌≡◌, refl, sym, ap, ◌∙◌}
use mathlib.Core.Logic.{◌≢◌}
use mathlib.Core.Bool.{Bool, true, false, ◌||◌, true≢false}
use mathlib.Core.List.{List, [], ◌∷◌, ◌++◌, map}
use lib.Dec.{eqb}
use lib.ListN.{get_or}
use borrow.Author.Tests.{eqb-true}
use Rattle.base_lists.specs.Bytes.{Every, Bytes, Lacks, among}

pub every_append {ℓ} : {A : Type ℓ} (P : A → Type 0) (a b : List A) → Every P a → Every P b → Every P (a ++ b)
every_append P [] b p q = q
every_append P (x ∷ a) b p q = (p.0, every_append P a b p.1 q)

pub every_map : {A B : Type 0} (f : A → B) (P : A → Type 0) (Q : B → Type 0) → ((a : A) → P a → Q (f a)) → (l : List A) → Every P l
    → Every Q (map f l)
every_map f P Q k [] h = tt
every_map f P Q k (a ∷ l) h = (k a h.0, every_map f P Q k l h.1)

-- what follows for each
pub every_each : {A : Type 0} (P Q : A → Type 0) → ((a : A) → P a → Q a) → (l : List A) → Every P l → Every Q l
every_each P Q k [] h = tt
every_each P Q k (a ∷ l) h = (k a h.0, every_each P Q k l h.1)

-- a byte that fails a test is none of those that pass it
pub every_lacks : (test : ℕ → Bool) (c : ℕ) → test c ≡ false → (s : List ℕ) → Every (λ x. test x ≡ true) s → Lacks c s
every_lacks test c fails = every_each (λ x. test x ≡ true) (λ x. x ≢ c) (λ x h e. true≢false (sym h ∙ ap test e ∙ fails))

-- what is so of each is so of the first ones and of the last ones
pub every_right : {A : Type 0} (P : A → Type 0) (a b : List A) → Every P (a ++ b) → Every P b
every_right P [] b h = h
every_right P (x ∷ a) b h = every_right P a b h.1

pub every_parts : {A : Type 0} (P : A → Type 0) (a b c : List A) → Every P (a ++ (b ++ c)) → Every P a × Every P c
every_parts P [] b c h = (tt, every_right P b c h)
every_parts P (x ∷ a) b c h = let r = every_parts P a b c h.1 in ((h.0, r.0), r.1)

-- what holds of each number of a list holds of one that is among them
pub among_each : (P : ℕ → Type 0) (l : List ℕ) (n : ℕ) → Every P l → among l n ≡ true → P n
among_each P [] n h e = absurd (true≢false (sym e))
among_each P (c ∷ l) n h e = go (eqb n c) refl (among_each P l n h.1) e
  where
    go : (t : Bool) → eqb n c ≡ t → (among l n ≡ true → P n) → (t || among l n) ≡ true → P n
    go true q rest e = rw (eqb-true n c q) h.0
    go false q rest e = rest e

-- a slice of bytes, by its elements
pub all_bytes : (s : List ℕ) → ((i : ℕ) → get_or s i 0 < 256) → Bytes s
all_bytes [] h = tt
all_bytes (x ∷ s) h = (h 0, all_bytes s (λ i. h (suc i)))
