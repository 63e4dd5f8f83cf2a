-- What a function answers that writes a text into a lent buffer, and what it leaves there: RULES 8.5, 10.
-- Assumes nothing: these are definitions.
use Rattle.std.specs.Prelude.{◌≡◌, Bool, cond, Option, Some, None, Result, Ok, Err, List, [], ◌∷◌, ◌++◌, ℕ, ltb, length, drop}
use Rattle.base_refusals.specs.declared.Refusal.{Refusal}
use Rattle.base_refusals.specs.Refusal as refusals
use Rattle.base_buffer.specs.declared.WriteError.{WriteError}
use Rattle.base_buffer.specs.declared.WriteError.TheVariants.{Refused, NoRoom}

-- ── reasons to refuse, in their order ──

-- a reason, and whether it holds
pub record Reason : Type 0 where
  pub reason : Refusal
  pub holds : Bool

infix 1 ◌when◌
abbrev pub ◌when◌ : Refusal → Bool → Reason
◌when◌ r t = record { reason = r; holds = t }

-- the first reason that holds
abbrev pub refusal_of : List Reason → Option Refusal
refusal_of [] = None
refusal_of (x ∷ more) = cond x.holds (Some x.reason) (refusal_of more)

-- its number (RULES 10), or n where there is none
abbrev pub number_or : Option Refusal → ℕ → ℕ
number_or None n = n
number_or (Some r) n = refusals.number r

-- what is answered by it: refused, or, where there is none, a
unfoldable pub unless : {A : Type 0} → Option Refusal → A → Result A Refusal
unless None a = Ok a
unless (Some r) a = Err r

-- ── answers ──

-- the number of the reason (RULES 10): 22 where the text is longer than the buffer
abbrev pub error_number : WriteError → ℕ
error_number (Refused r) = refusals.number r
error_number (NoRoom n) = 22

-- so of an answer: 0 where the text was written
abbrev pub number : Result ℕ WriteError → ℕ
number (Ok n) = 0
number (Err e) = error_number e

-- the length that an answer carries: of the text that was written, or that the buffer has no room for
abbrev pub needed : Result ℕ WriteError → ℕ
needed (Ok n) = n
needed (Err (Refused r)) = 0
needed (Err (NoRoom n)) = n

-- the answer by the first reason that holds, whether the text is too long for the buffer, and its length
unfoldable pub answer : Option Refusal → Bool → ℕ → Result ℕ WriteError
answer (Some r) long need = Err (Refused r)
answer None long need = cond long (Err (NoRoom need)) (Ok need)

-- what the buffer holds then: the text and the bytes it had behind it, or what it held
unfoldable pub contents : Result ℕ WriteError → List ℕ → List ℕ → List ℕ
contents (Ok n) text d = text ++ drop (length text) d
contents (Err e) text d = d

-- the one result and the one content that a writer of a text may give, d being the buffer before and d' after
pub record Wrote (reasons : List Reason) (text d d' : List ℕ) (r : Result ℕ WriteError) : Type 0 where
  pub result : r ≡ answer (refusal_of reasons) (ltb (length d) (length text)) (length text)
  pub left : d' ≡ contents r text d
