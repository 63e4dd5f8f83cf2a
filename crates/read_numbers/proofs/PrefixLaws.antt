-- What the library says of a text and its first byte, by `sans`. Assumes nothing.
use mathlib.Core.Path.{◌≡◌, refl, sym, ◌∙◌}
use mathlib.Core.Bool.{true, false, and-true}
use mathlib.Core.List.{List, [], ◌∷◌}
use Prim.Native.Nat.{ℕ}
use lib.Dec.{eqb}
use lib.ListN.{take, drop}
use lib.Pointwise.{pointwise}
use Rattle.base_lists.specs.Bytes.{sans}
use Rattle.base_scan.specs.Find.{is}

module _ (b : ℕ) where
  -- it begins with b
  pub begins : (s : List ℕ) → pointwise eqb (take 1 s) (b ∷ []) ≡ true → drop 1 s ≡ sans (is b) s
  unfolding sans
  begins [] e = refl
  begins (x ∷ s) e = let k : eqb x b ≡ true = sym (and-true (eqb x b)) ∙ e in rw k refl

  -- it does not
  pub begins_not : (s : List ℕ) → pointwise eqb (take 1 s) (b ∷ []) ≡ false → s ≡ sans (is b) s
  unfolding sans
  begins_not [] e = refl
  begins_not (x ∷ s) e = let k : eqb x b ≡ false = sym (and-true (eqb x b)) ∙ e in rw k refl
