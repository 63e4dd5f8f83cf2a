-- What it is for a function's code to do something, and to do one thing only. Of a function `f` the toolchain makes `f.ended`, its
-- signature, `f.Symbol.name`, the name by which it is called, `f.Symbol.code`, its code and that of all that it calls, and `f.Met.met`,
-- that the code meets the contract. Assumes nothing: these are definitions.
use Rattle.std.specs.Prelude.{◌≡◌, List, [], ◌∷◌, ℕ}
use seplogic.Ra.Ura.{Ura}
use base.Fml.{Lft}
use base.Logic.{SProp, sep, emp}
use mir.Syntax.{Callee, Args as Generics, Dicts, a_type}
use prog.Model.{Model}
use prog.Routine.{Env}
use prog.Wired.{Code, Wired}
use types.Logic.{Logic}
use contract.Lifetimes.{Lfts}
use contract.BorrowLft.{◌⊑◌}
use contract.Monad.{fact}
use contract.Running.{Running}
use denote.RattleType.{RattleType}
use denote.Param.{bounded}
use denote.Param.Laws.{Laws}
use denote.Triple.Entry.{Args, Res}
use denote.Triple.Clauses.{Ended, AtExit}
use denote.Triple.Spec.{Meets, exits}

module _ (T : Ended) where
  -- the lifetimes of what a call is lent, its arguments, its answer, and the arguments as it leaves them
  abbrev pub Lifetimes : Type 0
  Lifetimes = Lfts T.signature.lifetimes

  abbrev pub Arguments : Lifetimes → Type 0
  Arguments κs = Args T.signature κs

  abbrev pub Answer : Lifetimes → Type 0
  Answer κs = Res T.signature κs

  abbrev pub Left : Lifetimes → Type 0
  Left κs = AtExit T κs

  -- what may be said of a call, and promised of it
  abbrev pub Clause : Type 1
  Clause = (κs : Lifetimes) → Arguments κs → Left κs → Answer κs → Type 0

  abbrev pub Promise : Type 2
  Promise = (M : Type 1) (𝓤 : Ura M) (κs : Lifetimes) → Arguments κs → Left κs → Answer κs → SProp 𝓤

  module _ (name : Callee) (code : Code) where
    -- The code meets a contract that asks nothing: called by its name, with any arguments, in any program that has the code, it does nothing
    -- undefined and ends, and Q holds then. So in every model of the toolchain's logic.
    abbrev pub Meeting : Promise → Type 2
    Meeting Q =
        (M : Type 1) (𝓤 : Ura M) (𝓛 : Logic 𝓤) (𝓜 : Model 𝓤 𝓛.H) (𝓡 : Running 𝓤 𝓛.H 𝓜)
        → Wired 𝓡.env code → Meets 𝓛 T.signature (𝓡.run (𝓡.env name))
        (λ κs a. record {
          ghost = Unit {0};
          requires = λ g. emp 𝓤;
          ensures = λ g r. exits 𝓛 T.signature T.kept κs a (λ b. Q M 𝓤 κs a b r);
        })

    abbrev pub Does : Clause → Type 2
    Does R = Meeting (λ M 𝓤 κs a b r. fact 𝓤 (R κs a b r))

    -- P holds of each call: of its arguments, of what a lent buffer then holds, and of what its answer shows. And for the same arguments it
    -- holds of one such content and one such answer alone.
    pub record Call {A B : Lifetimes → Type 0} (holds : (κs : Lifetimes) → Left κs → B κs) (shows : (κs : Lifetimes) → Answer κs → A κs)
        (P : (κs : Lifetimes) → Arguments κs → B κs → A κs → Type 0) : Type 2 where
      pub does : Does (λ κs a b r. P κs a (holds κs b) (shows κs r))
      pub one : {κs : Lifetimes} {a : Arguments κs} {d d' : B κs} {x x' : A κs} → P κs a d x → P κs a d' x' → (x ≡ x') × (d ≡ d')

    -- what the answer shows is f of the arguments
    abbrev pub Tells : (A : Lifetimes → Type 0) → ((κs : Lifetimes) → Answer κs → A κs) → ((κs : Lifetimes) → Arguments κs → A κs) → Type 2
    Tells A shows f = Call {A = A} {B = λ κs. Unit {0}} (λ κs b. tt) shows (λ κs a d x. x ≡ f κs a)

    -- so the answer itself
    abbrev pub Gives : ((κs : Lifetimes) → Arguments κs → Answer κs) → Type 2
    Gives = Tells Answer (λ κs r. r)

    -- so the text of the part that is handed back
    abbrev pub Shows : ((κs : Lifetimes) → Answer κs → List ℕ) → ((κs : Lifetimes) → Arguments κs → List ℕ) → Type 2
    Shows = Tells (λ κs. List ℕ)

    -- the answer, and what the lent buffer holds then, are as P says
    abbrev pub Fills : ((κs : Lifetimes) → Left κs → List ℕ) → ((κs : Lifetimes) → Arguments κs → List ℕ → Answer κs → Type 0) → Type 2
    Fills holds P = Call {A = Answer} {B = λ κs. List ℕ} holds (λ κs r. r) P

-- A function over any type S that has a trait, such as a sink. `G S` are the ghost items of the trait for S and its dictionary, which has
-- the trait's functions for S, and `Has` says that these meet in a program what the trait promises of them. The signature has one lifetime
-- more, its last, which stands for S (`life`): it ends no later than S lives.
module _ {G : RattleType → Type 1} (dicts : (S : RattleType) → G S → Dicts)
    (Has : (M : Type 1) (𝓤 : Ura M) (𝓛 : Logic 𝓤) (𝓜 : Model 𝓤 𝓛.H) (𝓡 : Running 𝓤 𝓛.H 𝓜)
    → Env → (S : RattleType) → G S → Type 2)
    (T : (S : RattleType) → G S → Ended) (name : Generics → Callee) (code : Code)
    (life : (S : RattleType) (g : G S) → Lifetimes (T S g) → Lft) where
  -- as `Meeting`, for every S that has the trait
  abbrev pub MeetingOver : ((S : RattleType) (g : G S) → Promise (T S g)) → Type 2
  MeetingOver Q =
      (M : Type 1) (𝓤 : Ura M) (𝓛 : Logic 𝓤) (𝓜 : Model 𝓤 𝓛.H) (𝓡 : Running 𝓤 𝓛.H 𝓜)
      → Wired 𝓡.env code → (S : RattleType) → Laws S → (g : G S) → Has M 𝓤 𝓛 𝓜 𝓡 𝓡.env S g
      → Meets 𝓛 (T S g).signature (𝓡.run (𝓡.env (name (bounded (a_type ∷ []) (S, tt {1}) (dicts S g)))))
      (λ κs a. record {
        ghost = Unit {0};
        requires = λ h. sep 𝓤 (fact 𝓤 (life S g κs ⊑ S.lives)) (emp 𝓤);
        ensures = λ h r. exits 𝓛 (T S g).signature (T S g).kept κs a (λ b. Q S g M 𝓤 κs a b r);
      })

  -- P holds of each call: of its arguments, of how it leaves them, and of its answer. And for the same arguments it holds of one such
  -- answer alone, and of one thing that S then shows.
  pub record Puts (shows : (S : RattleType) (g : G S) (κs : Lifetimes (T S g)) → Left (T S g) κs → List ℕ × ℕ)
      (P : (S : RattleType) (g : G S) → Clause (T S g)) : Type 2 where
    pub does : MeetingOver (λ S g M 𝓤 κs a b r. fact 𝓤 (P S g κs a b r))
    pub one : {S : RattleType} {g : G S} {κs : Lifetimes (T S g)} {a : Arguments (T S g) κs} {b b' : Left (T S g) κs}
        {r r' : Answer (T S g) κs} → P S g κs a b r → P S g κs a b' r' → (r ≡ r') × (shows S g κs b ≡ shows S g κs b')
