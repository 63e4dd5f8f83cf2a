-- Answers as C has them: a promise from the library's, and that it allows one result. Assumes nothing.
use Prim.Native.Nat.{ℕ}
use mathlib.Core.Path.{◌≡◌, sym, ap, ◌∙◌}
use mathlib.Core.List.{List}
use Rattle.base_buffer.specs.Answer.{Reason}
use Rattle.base_buffer.proofs.AnswerLaws.{wrote_one}
use Rattle.c_answers.specs.declared.Gff3Written.{Gff3Written}
use Rattle.c_answers.specs.Answers.{AsC, CWrote}

module _ {A B : Type 0} {in_c : A → B} where
  -- what the library promises is what C gets
  pub as_c : {P : A → Type 0} {r : B} (a : A) → r ≡ in_c a → P a → AsC in_c P r
  as_c a e p = record { answer = a; allowed = p; same = e }

  -- where the library's promise allows one answer, and E of the buffer besides, so does C's
  pub as_c_one : {P Q : A → Type 0} {E : Type 0} {r₁ r₂ : B} → ((a b : A) → P a → Q b → (a ≡ b) × E) → AsC in_c P r₁ → AsC in_c Q r₂
      → (r₁ ≡ r₂) × E
  as_c_one one p q = let e = one _ _ p.allowed q.allowed in (p.same ∙ ap in_c e.0 ∙ sym q.same, e.1)

-- any two results, and any two contents of the buffer, that a writer's promise allows are equal
pub c_wrote_one : {reasons : List Reason} {text d d₁ d₂ : List ℕ} {r₁ r₂ : Gff3Written}
    → CWrote reasons text d d₁ r₁ → CWrote reasons text d d₂ r₂ → (r₁ ≡ r₂) × (d₁ ≡ d₂)
c_wrote_one = as_c_one (λ a b. wrote_one)
