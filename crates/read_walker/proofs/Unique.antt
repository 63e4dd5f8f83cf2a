-- Each public function's promise allows one result. Assumes nothing.
use mathlib.Core.Path.{◌≡◌, ap₂, sym, ◌∙◌}
use Prim.Native.Nat.{ℕ}
use mathlib.Core.List.{List, [], ◌∷◌}
use seplogic.Ra.Ura.{Ura}
use base.Logic.{SProp, ent, sep, emp, snd∗}
use prog.Memory.{Memory}
use prog.Routine.{Routine}
use types.Logic.{Logic}
use contract.Lifetimes.{Lfts}
use contract.Monad.{Fun, fact}
use types.Kit.{raw, ◌$◌, ◌∵◌, !, qed, suffices, done}
use denote.Ref.{Bor}
use denote.Steps.{heard}
use denote.Triple.Clauses.{AtExit}
use denote.Triple.Walked.{says}
use Rattle.base_lists.proofs.One.{OneResult}
use Rattle.std.specs.Prelude.{Option, Result}
use Rattle.base_refusals.specs.declared.Refusal.{Refusal}
use Rattle.base_scan.specs.declared.place.Place.{Place}
use Rattle.read_attributes.specs.declared.field.Field.{Field}
use Rattle.read_walker.specs.declared.Attributes.{Attributes}
use Rattle.read_walker.specs.contracts.Attributes.walk_over as walk_over
use Rattle.read_walker.specs.contracts.Attributes.next as next
use Rattle.read_walker.specs.contracts.Attributes.moved as moved
use Rattle.read_walker.specs.contracts.Attributes.get as get
use Rattle.read_walker.proofs.first_field.Kinds as first_field_kinds
use Rattle.read_walker.proofs.first_field.Reads as first_field

first_field_one : OneResult 1 first_field_kinds.ps first_field_kinds.r first_field.Post
first_field_one κs a x y s t p q = p ∙ sym q

-- a walker is its two fields
abbrev walker : Bor (List ℕ) → ℕ → Attributes
walker column at = record { column = column; at = at }

-- from two facts of the logic a third
follows : {M : Type 1} {𝓤 : Ura M} (𝓛 : Logic 𝓤) (P Q R : Type 0) → (P → Q → R)
    → ent 𝓤 (sep 𝓤 (fact 𝓤 P) (fact 𝓤 Q)) (fact 𝓤 R)
follows {𝓤 = 𝓤} 𝓛 P Q R f =
    qed 𝓛 (raw (fact 𝓤 P) ∷ raw (fact 𝓤 Q) ∷ []) ∵
    heard ! P (λ p. heard ! Q (λ q. suffices ! _ (snd∗ 𝓤 (emp 𝓤) (fact 𝓤 R)) $ says ! (f p q) $ done !))

-- of a function over a walker the promise is a clause of the logic: it allows one result where from two results that it allows, for the
-- same arguments, follows that they are equal
module _ {M : Type 1} {𝓤 : Ura M} (𝓛 : Logic 𝓤) (mem : Memory → SProp 𝓤) (run : Routine → Fun 𝓤)
    (κs : Lfts 1) where
  walk_over_one : (c : Bor (List ℕ)) (x y : Attributes) (s t : AtExit walk_over.ended κs)
      → ent 𝓤 (sep 𝓤 ((walk_over.clauses 𝓛 mem run κs (c, tt)).ensures tt x s)
      ((walk_over.clauses 𝓛 mem run κs (c, tt)).ensures tt y t)) (fact 𝓤 (x ≡ y))
  walk_over_one c x y s t = follows 𝓛 _ _ _ (λ p q. ap₂ walker (p.0 ∙ sym q.0) (p.1 ∙ sym q.1))

  next_one : (d : Attributes) (x y : Result (Option Field) Refusal) (s t : AtExit next.ended κs)
      → ent 𝓤 (sep 𝓤 ((next.clauses 𝓛 mem run κs (d, tt)).ensures tt x s) ((next.clauses 𝓛 mem run κs (d, tt)).ensures tt y t))
      (fact 𝓤 (x ≡ y))
  next_one d x y s t = follows 𝓛 _ _ _ (λ p q. p ∙ sym q)

  moved_one : (d : Attributes) (n : ℕ) (x y : Attributes) (s t : AtExit moved.ended κs)
      → ent 𝓤 (sep 𝓤 ((moved.clauses 𝓛 mem run κs (d, (n, tt))).ensures tt x s)
      ((moved.clauses 𝓛 mem run κs (d, (n, tt))).ensures tt y t)) (fact 𝓤 (x ≡ y))
  moved_one d n x y s t = follows 𝓛 _ _ _ (λ p q. ap₂ walker (p.0 ∙ sym q.0) (p.1 ∙ sym q.1))

-- the same of `get`, which has two lifetimes
module _ {M : Type 1} {𝓤 : Ura M} (𝓛 : Logic 𝓤) (mem : Memory → SProp 𝓤) (run : Routine → Fun 𝓤)
    (κs : Lfts 2) where
  get_one : (d : Attributes) (g : Bor (List ℕ)) (x y : Result (Option Place) Refusal) (s t : AtExit get.ended κs)
      → ent 𝓤 (sep 𝓤 ((get.clauses 𝓛 mem run κs (d, (g, tt))).ensures tt x s)
      ((get.clauses 𝓛 mem run κs (d, (g, tt))).ensures tt y t)) (fact 𝓤 (x ≡ y))
  get_one d g x y s t = follows 𝓛 _ _ _ (λ p q. p ∙ sym q)
