-- Texts with a byte before each, and the score. Assumes nothing.
use Prim.Native.Nat.{ℕ}
use native.Mathlib.Omega.{arith}
use mathlib.Core.Path.{◌≡◌, refl}
use mathlib.Core.Logic.{◌≢◌}
use mathlib.Core.List.{List, [], ◌∷◌, ◌++◌, map}
use lib.ListN.{length}
use Rattle.base_lists.specs.Bytes.{tab, comma, dot, semicolon, equals}
use Rattle.read_values.specs.Pieces.{prefixed, joined}
use Rattle.read_attributes.specs.Attributes.{Attribute}
use Rattle.read_attributes.specs.Written.{written, column}
use Rattle.write_line.specs.Inner.Led.{led}
use Rattle.write_line.specs.Record.{score_column}

pub led_prefixed : (c : ℕ) (ps : List (List ℕ)) → led c c ps ≡ prefixed c ps
unfolding led prefixed
led_prefixed c [] = refl
led_prefixed c (p ∷ ps) = rw (led_prefixed c ps)

-- a byte, and the texts joined by another
led_joined : (b c : ℕ) (ps : List (List ℕ)) → length ps ≢ 0 → led b c ps ≡ b ∷ joined c ps
unfolding led joined
led_joined b c [] h = absurd (h refl)
led_joined b c (p ∷ ps) h = rw (led_prefixed c ps)

-- what stands before them is nothing to their length
pub length_led : (a b c : ℕ) (ps : List (List ℕ)) → length (led a c ps) ≡ length (led b c ps)
unfolding led
length_led a b c [] = refl
length_led a b c (p ∷ ps) = refl

module _ (encode : List ℕ → List ℕ) where
  -- an attribute: its tag, and its values behind `=`
  pub led_written : (b : ℕ) (t : List ℕ) (vs : List (List ℕ)) → length vs ≢ 0
      → b ∷ written encode (record { tag = t; values = vs }) ≡ (b ∷ encode t) ++ led equals comma (map encode vs)
  unfolding written
  led_written b t [] h = absurd (h refl)
  led_written b t (v ∷ vs) h = rw (led_joined equals comma (map encode (v ∷ vs)) (λ e. omega arith))

  -- column 9 behind a tab
  pub led_column : (l : List Attribute) → length l ≢ 0 → led tab semicolon (map (written encode) l) ≡ tab ∷ column encode l
  unfolding column
  led_column [] h = absurd (h refl)
  led_column (a ∷ l) h = led_joined tab semicolon (map (written encode) (a ∷ l)) (λ e. omega arith)

-- a score that is missing, and one that is there
pub score_none : (s : List ℕ) → length s ≡ 0 → dot ∷ [] ≡ score_column s
unfolding score_column
score_none [] e = refl
score_none (x ∷ s) e = absurd (omega arith)

pub score_some : (s : List ℕ) → length s ≢ 0 → s ≡ score_column s
unfolding score_column
score_some [] h = absurd (h refl)
score_some (x ∷ s) h = refl
