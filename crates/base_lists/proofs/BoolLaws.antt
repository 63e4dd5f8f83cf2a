-- Laws of tests. Assumes nothing.
use mathlib.Core.Path.{◌≡◌, refl, sym}
use mathlib.Core.Bool.{Bool, true, false, cond, not, ◌&&◌, ◌||◌}
use mathlib.Core.List.{List, ◌++◌}

-- what is so by either answer to a test is so of the choice
pub by_test : {A : Type 0} {x y : A} (P : A → Type 0) (t : Bool) → (t ≡ true → P x) → (t ≡ false → P y) → P (cond t x y)
by_test P true f g = f refl
by_test P false f g = g refl

-- a function of a choice
pub ap_cond : {A B : Type 0} (f : A → B) (t : Bool) (a b : A) → f (cond t a b) ≡ cond t (f a) (f b)
ap_cond f true a b = refl
ap_cond f false a b = refl

-- a choice between lists, with a list behind it
pub cond_append {ℓ} : {A : Type ℓ} (t : Bool) (a b c : List A) → cond t a b ++ c ≡ cond t (a ++ c) (b ++ c)
cond_append true a b c = refl
cond_append false a b c = refl

-- both halves of a test that holds
pub and_left : (a b : Bool) → (a && b) ≡ true → a ≡ true
and_left true b e = refl
and_left false b e = e

pub and_right : (a b : Bool) → (a && b) ≡ true → b ≡ true
and_right true b e = e
and_right false true e = refl
and_right false false e = e

-- both halves of a test that fails
pub or_left : (a b : Bool) → (a || b) ≡ false → a ≡ false
or_left false b e = refl
or_left true b e = e

pub or_right : (a b : Bool) → (a || b) ≡ false → b ≡ false
or_right false b e = e
or_right true false e = refl
or_right true true e = e

-- two tests with one answer, as a test
abbrev pub agree : Bool → Bool → Bool
agree true b = b
agree false b = not b

pub agree_eq : (a b : Bool) → agree a b ≡ true → a ≡ b
agree_eq true b e = sym e
agree_eq false true e = e
agree_eq false false e = refl
