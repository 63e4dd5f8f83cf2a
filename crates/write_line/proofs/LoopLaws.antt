-- Many things of the sheet, each behind a byte: taken one after another. Assumes nothing.
use mathlib.Core.Path.{◌≡◌}
use mathlib.Core.List.{List, ◌∷◌, map}
use Prim.Native.Nat.{ℕ, ◌+◌, ◌≤◌}
use lib.ListN.{length, drop}
use Rattle.std.specs.Prelude.{Option, Some}
use Rattle.base_sink.specs.Sink.{SinkLaws}
use Rattle.sheet_form.specs.Reader.{Reader, times}
use Rattle.sheet_form.specs.Inner.Past.{Passes}
use Rattle.sheet_form.proofs.PastLaws.{past_next, past_all}
use Rattle.write_line.specs.Inner.Led.{led}

module _ {S A : Type 0} {took : List ℕ → S → S → Type 0} {shows : S → List ℕ × ℕ} (laws : SinkLaws took shows) (read : Reader A) (f : A → List ℕ) {s : List ℕ} where
  -- the first is taken, and then the others
  pub takes_more : (c left n from : ℕ) {b k : ℕ} {q r : Option ℕ} {p p₁ P : S} → left ≡ n + 1
      → Passes (λ a. took (b ∷ f a) p p₁) s q (read (drop from s)) → q ≡ Some k
      → Passes (λ l. took (led c c (map f l)) p₁ P) s r (times read n (drop k s))
      → Passes (λ l. took (led b c (map f l)) p P) s r (times read left (drop from s))
  unfolding led
  takes_more c left n from e p h q = past_next read left n from e (λ a more x y. laws.joins _ _ _ _ _ x y) p h q

  -- none is left
  pub takes_last : (b c left from : ℕ) {p : S} → left ≡ 0 → from ≤ length s
      → Passes (λ l. took (led b c (map f l)) p p) s (Some from) (times read left (drop from s))
  unfolding led
  takes_last b c left from e h = past_all read left from e h (laws.nothing _)
