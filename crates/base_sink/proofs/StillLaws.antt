-- What a sink has still to take of a text. Assumes nothing.
use mathlib.Core.List.{List, [], ◌++◌}
use Prim.Native.Nat.{ℕ}
use Rattle.base_sink.specs.Sink.{SinkLaws}

-- of `whole`, which p₀ is to take, p has still `rest` to take
abbrev pub Still : {S : Type 0} → (List ℕ → S → S → Type 0) → List ℕ → S → List ℕ → S → Type 0
Still {S} took whole p₀ rest p = (r : S) → took rest p r → took whole p₀ r

module _ {S : Type 0} {took : List ℕ → S → S → Type 0} {shows : S → List ℕ × ℕ} (laws : SinkLaws took shows) {whole : List ℕ} {p₀ p : S} where
  -- a text more was taken
  pub still_less : {a rest : List ℕ} {q : S} → Still took whole p₀ (a ++ rest) p → took a p q → Still took whole p₀ rest q
  still_less {a} {rest} {q} still h = λ r f. still r (laws.joins a rest p q r h f)

  -- nothing is left
  pub still_none : Still took whole p₀ [] p → took whole p₀ p
  still_none still = still p (laws.nothing p)
