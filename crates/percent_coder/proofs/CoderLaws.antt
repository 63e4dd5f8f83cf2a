-- Every spelling has a coder's laws, and the encoder over a set of bytes spells. Assumes nothing.
use Prim.Native.Nat.{ℕ, ◌*◌, ◌<◌, ◌≤◌}
use native.Mathlib.Omega.{arith}
use mathlib.Core.Path.{◌≡◌, refl, sym, ap, ◌∙◌}
use mathlib.Core.Logic.{◌≢◌}
use mathlib.Core.Bool.{Bool, true, false, cond, true≢false}
use mathlib.Core.List.{List, [], ◌∷◌, ◌++◌}
use lib.Dec.{eqb}
use lib.ListN.{length}
use borrow.Author.Tests.{eqb-false, not-true}
use Rattle.base_lists.specs.Bytes.{Bytes, Lacks, percent}
use Rattle.base_lists.proofs.BoolLaws.{and_left, and_right, or_left, or_right}
use Rattle.base_lists.proofs.EveryLaws.{every_append}
use Rattle.percent_coding.specs.Percent.{is_hex, decoded, escape, piece, encoded}
use Rattle.percent_coding.proofs.PercentLaws.{decoded_plain, decoded_escape, lacks_escape, bytes_escape}
use Rattle.percent_coder.specs.Coder.{Coder, barred}
use Rattle.percent_coder.specs.Inner.Spells.{Spells, ends, stands, escapes}

-- ── the laws of a spelling ────────────────────────────────────────────────────────────────────

module _ (must : ℕ → Bool) (sign : must percent ≡ true) where
  spelled_back : {s t : List ℕ} → Spells must s t → Bytes s → decoded t ≡ s
  unfolding decoded
  spelled_back ends h = refl
  spelled_back (stands x {s} {t} e w) h =
      decoded_plain x t (λ p. true≢false (sym sign ∙ ap must (sym p) ∙ e)) ∙ ap (λ (r : List ℕ). x ∷ r) (spelled_back w h.1)
  spelled_back (escapes x {s} {t} w) h = decoded_escape x t h.0 ∙ ap (λ (r : List ℕ). x ∷ r) (spelled_back w h.1)

module _ {must : ℕ → Bool} where
  spelled_lacks : (c : ℕ) → must c ≡ true → c ≢ percent → is_hex c ≡ false → {s t : List ℕ} → Spells must s t → Bytes s → Lacks c t
  spelled_lacks c out other digit ends h = tt
  spelled_lacks c out other digit (stands x e w) h =
      ((λ p. true≢false (sym out ∙ ap must (sym p) ∙ e)), spelled_lacks c out other digit w h.1)
  spelled_lacks c out other digit (escapes x {s} {t} w) h =
      every_append (λ y. y ≢ c) (escape x) t (lacks_escape c other digit x h.0) (spelled_lacks c out other digit w h.1)

  spelled_bytes : {s t : List ℕ} → Spells must s t → Bytes s → Bytes t
  spelled_bytes ends h = tt
  spelled_bytes (stands x e w) h = (h.0, spelled_bytes w h.1)
  spelled_bytes (escapes x {s} {t} w) h = every_append (λ y. y < 256) (escape x) t (bytes_escape x h.0) (spelled_bytes w h.1)

  spelled_few : {s t : List ℕ} → Spells must s t → length t ≤ 3 * length s
  unfolding escape
  spelled_few ends = omega arith
  spelled_few (stands x e w) = omega (arith, spelled_few w)
  spelled_few (escapes x w) = omega (arith, spelled_few w)

-- an encoder that spells is a coder
pub coder_spells : (must : ℕ → Bool) (encode : List ℕ → List ℕ) → must percent ≡ true → ((s : List ℕ) → Spells must s (encode s))
    → Coder (barred must) encode
coder_spells must encode sign spells =
    record {
      back = λ s. spelled_back must sign (spells s);
      lacks = λ c e s.
          let other = not-true _ (and_right (must c) _ e) in
          spelled_lacks c (and_left (must c) _ e) (eqb-false c percent (or_left (eqb c percent) (is_hex c) other))
          (or_right (eqb c percent) (is_hex c) other) (spells s);
      bytes = λ s. spelled_bytes (spells s);
      few = λ s. spelled_few (spells s);
    }

-- ── the encoder over a set ────────────────────────────────────────────────────────────────────

module _ (set : ℕ → Bool) where
  spells_piece : (x : ℕ) {s t : List ℕ} (b : Bool) → set x ≡ b → Spells set s t → Spells set (x ∷ s) (cond b (escape x) (x ∷ []) ++ t)
  spells_piece x true e w = escapes x w
  spells_piece x false e w = stands x e w

  spells_encoded : (s : List ℕ) → Spells set s (encoded set s)
  unfolding encoded piece
  spells_encoded [] = ends
  spells_encoded (x ∷ s) = spells_piece x (set x) refl (spells_encoded s)

  pub coder_encoded : set percent ≡ true → Coder (barred set) (encoded set)
  coder_encoded sign = coder_spells set (encoded set) sign spells_encoded
