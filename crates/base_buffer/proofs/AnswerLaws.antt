-- Reasons to refuse, and what is answered by the first of them; the three ways in which a writer ends, and that its promise allows one
-- result. Assumes nothing.
use native.Mathlib.Omega.{arith}
use mathlib.Core.Path.{◌≡◌, refl, sym, ap, ◌∙◌}
use Rattle.std.specs.Prelude.{Bool, true, false, cond, Option, Some, None, Result, Ok, Err, List, [], ◌∷◌, ◌++◌, ℕ, ◌≤◌, ◌<◌}
use Rattle.std.specs.Prelude.{length, drop}
use borrow.Author.Tests.{lt-ltb, le-ltb}
use Rattle.base_lists.specs.Bytes.{Every}
use Rattle.base_refusals.specs.declared.Refusal.{Refusal}
use Rattle.base_refusals.specs.declared.Refusal.TheVariants as refusal
use Rattle.base_refusals.specs.Refusal as refusals
use Rattle.base_refusals.specs.Refusal.{and_then}
use Rattle.base_buffer.specs.declared.WriteError.{WriteError}
use Rattle.base_buffer.specs.declared.WriteError.TheVariants.{Refused, NoRoom}
use Rattle.base_buffer.specs.Answer.{Reason, refusal_of, number_or, unless, number, answer, contents, Wrote}
use Rattle.base_buffer.specs.Laid.{Lays}
use Rattle.base_buffer.proofs.LaidLaws.{laid_start}

-- ── one result ────────────────────────────────────────────────────────────────────────────────

-- any two results, and any two contents of the buffer, that a writer's promise allows are equal
pub wrote_one : {reasons : List Reason} {text d d₁ d₂ : List ℕ} {r₁ r₂ : Result ℕ WriteError} → Wrote reasons text d d₁ r₁
    → Wrote reasons text d d₂ r₂ → (r₁ ≡ r₂) × (d₁ ≡ d₂)
wrote_one {reasons} {text} {d} p q =
    let e = p.result ∙ sym q.result in (e, p.left ∙ ap (λ (r : Result ℕ WriteError). contents r text d) e ∙ sym q.left)

-- so for a text that is laid
pub lays_one : {text d d₁ d₂ : List ℕ} {at r₁ r₂ : ℕ} → Lays text d at d₁ r₁ → Lays text d at d₂ r₂ → (r₁ ≡ r₂) × (d₁ ≡ d₂)
lays_one p q = (p.end ∙ sym q.end, p.left ∙ sym q.left)

-- ── the order of the reasons ──────────────────────────────────────────────────────────────────

-- reasons and then others: the others count where none of the first holds
pub unless_append : {A B : Type 0} (xs ys : List Reason) (a : A) (f : A → B)
    → unless (refusal_of (xs ++ ys)) (f a) ≡ and_then (unless (refusal_of xs) a) (λ x. unless (refusal_of ys) (f x))
unfolding unless
unless_append [] ys a f = refl
unless_append (x ∷ xs) ys a f = go x.holds (unless_append xs ys a f)
  where
    go : (t : Bool) → unless (refusal_of (xs ++ ys)) (f a) ≡ and_then (unless (refusal_of xs) a) (λ x. unless (refusal_of ys) (f x))
        → unless (cond t (Some x.reason) (refusal_of (xs ++ ys))) (f a)
        ≡ and_then (unless (cond t (Some x.reason) (refusal_of xs)) a) (λ x. unless (refusal_of ys) (f x))
    go true more = refl
    go false more = more

-- so of their numbers
pub number_append : (xs ys : List Reason) (n : ℕ)
    → number_or (refusal_of (xs ++ ys)) n ≡ number_or (refusal_of xs) (number_or (refusal_of ys) n)
number_append [] ys n = refl
number_append (x ∷ xs) ys n = go x.holds (number_append xs ys n)
  where
    go : (t : Bool) → number_or (refusal_of (xs ++ ys)) n ≡ number_or (refusal_of xs) (number_or (refusal_of ys) n)
        → number_or (cond t (Some x.reason) (refusal_of (xs ++ ys))) n
        ≡ number_or (cond t (Some x.reason) (refusal_of xs)) (number_or (refusal_of ys) n)
    go true more = refl
    go false more = more

-- what holds of each reason holds of the first that holds
pub first_among : (P : Refusal → Type 0) (xs : List Reason) {r : Refusal} → Every (λ x. P x.reason) xs → refusal_of xs ≡ Some r → P r
first_among P [] h e = absurd cc
first_among P (x ∷ xs) {r} h e = go x.holds (first_among P xs h.1) e
  where
    go : (t : Bool) → (refusal_of xs ≡ Some r → P r) → cond t (Some x.reason) (refusal_of xs) ≡ Some r → P r
    go true more k = let same : x.reason ≡ r = cc in rw (← same) h.0
    go false more k = more k

-- 22 comes last: an answer's number is that of the first reason, the lack of room behind all others
pub number_answer : (o : Option Refusal) (long : Bool) (need : ℕ) → number (answer o long need) ≡ number_or o (cond long 22 0)
unfolding answer
number_answer (Some r) long need = refl
number_answer None true need = refl
number_answer None false need = refl

-- each reason has a number, so that 0 stands for none
pub number_some : (r : Refusal) → 0 < refusals.number r
number_some refusal.Columns = omega arith
number_some refusal.Position = omega arith
number_some refusal.Strand = omega arith
number_some refusal.Phase = omega arith
number_some refusal.Attribute = omega arith
number_some refusal.Empty = omega arith
number_some refusal.Major = omega arith
number_some refusal.Minor = omega arith
number_some refusal.Patch = omega arith
number_some refusal.RegionNameMissing = omega arith
number_some refusal.RegionStartMissing = omega arith
number_some refusal.RegionStart = omega arith
number_some refusal.RegionEndMissing = omega arith
number_some refusal.RegionEnd = omega arith
number_some refusal.BuildSourceMissing = omega arith
number_some refusal.BuildNameMissing = omega arith
number_some refusal.Score = omega arith
number_some refusal.PhaseMissing = omega arith
number_some refusal.Key = omega arith
number_some refusal.Text = omega arith
number_some refusal.ValueKey = omega arith
number_some refusal.Sheet = omega arith
number_some refusal.TooLong = omega arith
number_some refusal.LineTooLong = omega arith
number_some refusal.Sum = omega arith
number_some refusal.Hold = omega arith

pub number_none : (o : Option Refusal) → number_or o 0 ≡ 0 → o ≡ None
number_none None e = refl
number_none (Some r) e = absurd (omega (arith, number_some r))

-- no reason holds: the first does not, and none of the others
pub none_holds : (t : Bool) (r : Refusal) (o : Option Refusal) → cond t (Some r) o ≡ None → (t ≡ false) × (o ≡ None)
none_holds true r o e = absurd cc
none_holds false r o e = (refl, e)

-- so for a whole list
pub none_of : (reasons : List Reason) → refusal_of reasons ≡ None → Every (λ x. x.holds ≡ false) reasons
none_of [] e = tt
none_of (x ∷ more) e = let first = none_holds x.holds x.reason (refusal_of more) e in (first.0, none_of more first.1)

-- ── refused, or not ───────────────────────────────────────────────────────────────────────────

-- what an answer by the first reason says of it: where the answer is no refusal, and where it is one
pub unless_is : {A : Type 0} {o : Option Refusal} {a b : A} {x : Result A Refusal} → x ≡ unless o a → x ≡ Ok b → (o ≡ None) × (a ≡ b)
unfolding unless
unless_is {o} {a} {b} e h = go o (sym e ∙ h)
  where
    go : (o : Option Refusal) → unless o a ≡ Ok b → (o ≡ None) × (a ≡ b)
    go None e = (refl, cc)
    go (Some r) e = absurd cc

pub unless_not : {A : Type 0} {o : Option Refusal} (a : A) {r : Refusal} {x : Result A Refusal} → x ≡ unless o a → x ≡ Err r → o ≡ Some r
unfolding unless
unless_not {o} a {r} e h = go o (sym e ∙ h)
  where
    go : (o : Option Refusal) → unless o a ≡ Err r → o ≡ Some r
    go None e = absurd cc
    go (Some r) e = cc

-- the number of an answer's refusal, and 0 where there is none
abbrev pub refusal_number : {A : Type 0} → Result A Refusal → ℕ
refusal_number (Ok x) = 0
refusal_number (Err r) = refusals.number r

pub number_unless : {A : Type 0} (o : Option Refusal) (a : A) → refusal_number (unless o a) ≡ number_or o 0
unfolding unless
number_unless None a = refl
number_unless (Some r) a = refl

-- what is made of an answer is made of what is answered where no reason holds, if a refusal stays itself
pub unless_map : {A B : Type 0} (f : Result A Refusal → Result B Refusal) → ((r : Refusal) → f (Err r) ≡ Err r) → (o : Option Refusal) (a : A)
    {b : B} → f (Ok a) ≡ Ok b → f (unless o a) ≡ unless o b
unfolding unless
unless_map f same None a e = e
unless_map f same (Some r) a e = same r

-- ── how a writer ends ─────────────────────────────────────────────────────────────────────────

module _ {reasons : List Reason} {text d : List ℕ} where
  pub wrote_refused : {r : Refusal} → refusal_of reasons ≡ Some r → Wrote reasons text d d (Err (Refused r))
  unfolding answer contents
  wrote_refused e = record { result = rw e refl; left = refl }

  pub wrote_no_room : {need : ℕ} → refusal_of reasons ≡ None → need ≡ length text → length d < need
      → Wrote reasons text d d (Err (NoRoom need))
  unfolding answer contents
  wrote_no_room none m room = record { result = rw (none, ← m, lt-ltb _ _ room); left = refl }

  pub wrote_done : {d' : List ℕ} {need r : ℕ} → refusal_of reasons ≡ None → need ≡ length text → need ≤ length d → Lays text d 0 d' r
      → Wrote reasons text d d' (Ok need)
  unfolding answer contents
  wrote_done none m room p =
      let fits : length text ≤ length d = omega arith in
      record { result = rw (none, le-ltb _ _ fits, m); left = p.left ∙ laid_start text d fits }

-- ── what its end says ─────────────────────────────────────────────────────────────────────────

done_means : (o : Option Refusal) (long : Bool) (need k : ℕ) → Ok k ≡ answer o long need → (o ≡ None) × (k ≡ need)
unfolding answer
done_means None false need k e = (refl, cc)
done_means None true need k e = absurd cc
done_means (Some r) long need k e = absurd cc

module _ {reasons : List Reason} {text d d' : List ℕ} where
  -- where it is done, no reason holds, and the buffer starts with the text
  pub wrote_means : {n : ℕ} → Wrote reasons text d d' (Ok n) → (refusal_of reasons ≡ None) × (n ≡ length text) × (d' ≡ text ++ drop n d)
  unfolding contents
  wrote_means {n} w = let e = done_means _ _ _ n w.result in (e.0, e.1, rw e.1 w.left)

  -- where no reason holds and there is room, it is done
  pub wrote_given_room : {r : Result ℕ WriteError} → refusal_of reasons ≡ None → length text ≤ length d → Wrote reasons text d d' r
      → r ≡ Ok (length text)
  unfolding answer
  wrote_given_room none room w = w.result ∙ rw (none, le-ltb _ _ room)
