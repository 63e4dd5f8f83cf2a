-- What it means that a contract allows one result: the statements that each crate's Unique.antt shows of its public functions.
-- Assumes nothing.
use Prim.Native.Nat.{ℕ}
use mathlib.Core.Path.{◌≡◌}
use mathlib.Core.List.{List}
use borrow.Fn.Kinds.{ParamKind, ResultKind, Out, Dens, res_t, ended_of}
use contract.Lifetimes.{Lfts}
use denote.Triple.Clauses.{AtExit}

-- a contract: its lifetimes, the kinds of its parameters and of its result, and what it promises
module _ (n : ℕ) (ps : List (ParamKind n)) (r : ResultKind n) (Q : Out n ps r) where
  -- of what a result shows, and of what a lent buffer holds at exit, the contract allows one for the same arguments
  abbrev pub One : {A B : Type 0} → ((κs : Lfts n) → (res_t r κs).Denot → A) → ((κs : Lfts n) → AtExit (ended_of n ps r) κs → B) → Type 0
  One shows holds =
      (κs : Lfts n) (a : Dens κs ps) (x y : (res_t r κs).Denot) (s t : AtExit (ended_of n ps r) κs) → Q κs a x s → Q κs a y t
      → (shows κs x ≡ shows κs y) × (holds κs s ≡ holds κs t)

  -- what a result shows, where no buffer is lent: of a part that is handed back, its text
  abbrev pub OneShown : {A : Type 0} → ((κs : Lfts n) → (res_t r κs).Denot → A) → Type 0
  OneShown shows =
      (κs : Lfts n) (a : Dens κs ps) (x y : (res_t r κs).Denot) (s t : AtExit (ended_of n ps r) κs) → Q κs a x s → Q κs a y t
      → shows κs x ≡ shows κs y

  -- the result itself, where no buffer is lent
  abbrev pub OneResult : Type 0
  OneResult = (κs : Lfts n) (a : Dens κs ps) (x y : (res_t r κs).Denot) (s t : AtExit (ended_of n ps r) κs) → Q κs a x s → Q κs a y t → x ≡ y
