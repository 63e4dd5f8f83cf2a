-- What a call does, from the contract that its code meets. Assumes nothing.
use mathlib.Core.Path.{◌≡◌, refl, sym, ◌∙◌}
use mathlib.Core.List.{List, [], ◌∷◌}
use Prim.Native.Nat.{ℕ}
use seplogic.Ra.Ura.{Ura}
use mir.Syntax.{Callee, Args as Generics, Dicts, a_type}
use base.Fml.{Lft}
use base.Logic.{ent, sep, emp, fst∗, snd∗}
use prog.Model.{Model}
use prog.Routine.{Env}
use prog.Wired.{Code}
use types.Logic.{Logic}
use denote.Param.{bounded}
use denote.RattleType.{RattleType}
use contract.BorrowLft.{◌⊑◌}
use contract.Monad.{fact, fact_i, fact_use, fact_mono, fm→mono}
use contract.Running.{Running}
use denote.Triple.Clauses.{Ended}
use denote.Triple.Table.{run_framed}
use denote.Triple.Weaken.{weaken}
use Rattle.promise_calls.specs.Does.{Lifetimes, Arguments, Answer, Left, Clause, Promise, Meeting, Does, Tells, MeetingOver, Puts}

-- what follows from what the code promises, it promises too
less : (T : Ended) (name : Callee) (code : Code) (Q R : Promise T)
    → ((M : Type 1) (𝓤 : Ura M) (κs : Lifetimes T) (a : Arguments T κs) (b : Left T κs) (r : Answer T κs)
    → ent 𝓤 (Q M 𝓤 κs a b r) (R M 𝓤 κs a b r)) → Meeting T name code Q → Meeting T name code R
less T name code Q R h met M 𝓤 𝓛 𝓜 𝓡 wired =
    weaken 𝓛 T
    (λ κs a. record { ghost = Unit {0}; requires = λ g. emp 𝓤; ensures = λ g r b. Q M 𝓤 κs a b r })
    (λ κs a g r b. R M 𝓤 κs a b r)
    (λ κs a g r ws. h M 𝓤 κs a _ r)
    (𝓡.run (𝓡.env name))
    (λ vs. fm→mono 𝓤 (𝓡.run (𝓡.env name) vs) (run_framed 𝓤 𝓛.H 𝓜 𝓡 (𝓡.env name) vs))
    (met M 𝓤 𝓛 𝓜 𝓡 wired)

module _ {T : Ended} {name : Callee} {code : Code} {A : Lifetimes T → Type 0} {shows : (κs : Lifetimes T) → Answer T κs → A κs}
    {f : (κs : Lifetimes T) → Arguments T κs → A κs} where
  -- the contract says it and no more
  pub told : Does T name code (λ κs a b r. shows κs r ≡ f κs a) → Tells T name code A shows f
  told met = record { does = met; one = λ p q. (p ∙ sym q, refl) }

  -- it follows from the contract's one clause
  pub follows : (Q : Clause T)
      → ((κs : Lifetimes T) (a : Arguments T κs) (b : Left T κs) (r : Answer T κs) → Q κs a b r → shows κs r ≡ f κs a)
      → Does T name code Q → Tells T name code A shows f
  follows Q h met = told (less T name code _ _ (λ M 𝓤 κs a b r. fact_mono 𝓤 _ _ (h κs a b r)) met)

  -- the contract's one clause says it, and S besides
  pub also : (S : Clause T) → Does T name code (λ κs a b r. (shows κs r ≡ f κs a) × S κs a b r) → Tells T name code A shows f
  also S = follows (λ κs a b r. (shows κs r ≡ f κs a) × S κs a b r) (λ κs a b r p. p.0)

  -- the contract has two clauses: the first says it, and the second S
  pub first : (S : Clause T) → Meeting T name code (λ M 𝓤 κs a b r. sep 𝓤 (fact 𝓤 (shows κs r ≡ f κs a)) (fact 𝓤 (S κs a b r)))
      → Tells T name code A shows f
  first S met =
      let says : Promise T = λ M 𝓤 κs a b r. fact 𝓤 (shows κs r ≡ f κs a) in
      let more : Promise T = λ M 𝓤 κs a b r. fact 𝓤 (S κs a b r) in
      told (less T name code (λ M 𝓤 κs a b r. sep 𝓤 (says M 𝓤 κs a b r) (more M 𝓤 κs a b r)) says
      (λ M 𝓤 κs a b r. fst∗ 𝓤 (says M 𝓤 κs a b r) (more M 𝓤 κs a b r)) met)

module _ {G : RattleType → Type 1} (dicts : (S : RattleType) → G S → Dicts)
    (Has : (M : Type 1) (𝓤 : Ura M) (𝓛 : Logic 𝓤) (𝓜 : Model 𝓤 𝓛.H) (𝓡 : Running 𝓤 𝓛.H 𝓜) → Env → (S : RattleType) → G S → Type 2)
    (T : (S : RattleType) → G S → Ended) (name : Generics → Callee) (code : Code) (life : (S : RattleType) (g : G S) → Lifetimes (T S g) → Lft) where
  -- as `less`, of every type that has the trait
  less_over : (Q R : (S : RattleType) (g : G S) → Promise (T S g))
      → ((S : RattleType) (g : G S) (M : Type 1) (𝓤 : Ura M) (κs : Lifetimes (T S g)) (a : Arguments (T S g) κs) (b : Left (T S g) κs)
      (r : Answer (T S g) κs) → ent 𝓤 (Q S g M 𝓤 κs a b r) (R S g M 𝓤 κs a b r))
      → MeetingOver dicts Has T name code life Q → MeetingOver dicts Has T name code life R
  less_over Q R h met M 𝓤 𝓛 𝓜 𝓡 wired S l g has =
      let callee = name (bounded (a_type ∷ []) (S, tt {1}) (dicts S g)) in
      weaken 𝓛 (T S g)
      (λ κs a. record {
        ghost = Unit {0};
        requires = λ i. sep 𝓤 (fact 𝓤 (life S g κs ⊑ S.lives)) (emp 𝓤);
        ensures = λ i r b. Q S g M 𝓤 κs a b r;
      })
      (λ κs a i r b. R S g M 𝓤 κs a b r)
      (λ κs a i r ws. h S g M 𝓤 κs a _ r)
      (𝓡.run (𝓡.env callee))
      (λ vs. fm→mono 𝓤 (𝓡.run (𝓡.env callee) vs) (run_framed 𝓤 𝓛.H 𝓜 𝓡 (𝓡.env callee) vs))
      (met M 𝓤 𝓛 𝓜 𝓡 wired S l g has)

  -- two clauses are one
  as_one : (P Q : (S : RattleType) (g : G S) → Clause (T S g))
      → MeetingOver dicts Has T name code life (λ S g M 𝓤 κs a b r. sep 𝓤 (fact 𝓤 (P S g κs a b r)) (fact 𝓤 (Q S g κs a b r)))
      → MeetingOver dicts Has T name code life (λ S g M 𝓤 κs a b r. fact 𝓤 (P S g κs a b r × Q S g κs a b r))
  as_one P Q =
      less_over (λ S g M 𝓤 κs a b r. sep 𝓤 (fact 𝓤 (P S g κs a b r)) (fact 𝓤 (Q S g κs a b r)))
      (λ S g M 𝓤 κs a b r. fact 𝓤 (P S g κs a b r × Q S g κs a b r))
      (λ S g M 𝓤 κs a b r.
      let p = fact 𝓤 (P S g κs a b r) in
      let q = fact 𝓤 (Q S g κs a b r) in
      fact_use 𝓤 (P S g κs a b r) (fst∗ 𝓤 p q) (λ x. fact_use 𝓤 (Q S g κs a b r) (snd∗ 𝓤 p q)
      (λ y. fact_i 𝓤 (P S g κs a b r × Q S g κs a b r) (sep 𝓤 p q) (x, y))))

module _ {G : RattleType → Type 1} {dicts : (S : RattleType) → G S → Dicts}
    {Has : (M : Type 1) (𝓤 : Ura M) (𝓛 : Logic 𝓤) (𝓜 : Model 𝓤 𝓛.H) (𝓡 : Running 𝓤 𝓛.H 𝓜) → Env → (S : RattleType) → G S → Type 2}
    {T : (S : RattleType) → G S → Ended} {name : Generics → Callee} {code : Code} {life : (S : RattleType) (g : G S) → Lifetimes (T S g) → Lft}
    {shows : (S : RattleType) (g : G S) (κs : Lifetimes (T S g)) → Left (T S g) κs → List ℕ × ℕ} where
  -- the contract has two clauses, and says no more
  pub both : (P Q : (S : RattleType) (g : G S) → Clause (T S g))
      → MeetingOver dicts Has T name code life (λ S g M 𝓤 κs a b r. sep 𝓤 (fact 𝓤 (P S g κs a b r)) (fact 𝓤 (Q S g κs a b r)))
      → ((S : RattleType) (g : G S) (κs : Lifetimes (T S g)) (a : Arguments (T S g) κs) (b b' : Left (T S g) κs) (r r' : Answer (T S g) κs)
      → P S g κs a b r × Q S g κs a b r → P S g κs a b' r' × Q S g κs a b' r' → (r ≡ r') × (shows S g κs b ≡ shows S g κs b'))
      → Puts dicts Has T name code life shows (λ S g κs a b r. P S g κs a b r × Q S g κs a b r)
  both P Q met one = record { does = as_one dicts Has T name code life P Q met; one = λ {S} {g} {κs} {a} {b} {b'} {r} {r'} p q. one S g κs a b b' r r' p q }
