-- Calls in a row (RULES 1.6), and what a caller is told by them. Assumes nothing: these are definitions.
use Rattle.std.specs.Prelude.{ℕ, cond, Result, Ok, Err, List, [], ◌∷◌, ◌++◌, leb, length, take, drop}
use Rattle.base_refusals.specs.declared.Refusal.{Refusal}
use Rattle.base_refusals.specs.Refusal.{number}
use Rattle.read_parts.specs.declared.state.State.{State}
use Rattle.read_parts.specs.declared.Part.{Part}
use Rattle.read_parts.specs.declared.Came.{Came}
use Rattle.read_parts.specs.declared.Came.TheVariants.{Line, TooLong, NoLine}
use Rattle.read_parts.specs.State.{hold_length}
use Rattle.read_parts.specs.Calls.{came_refusal, TakesPart, EndsParts}

-- a line that is handed out, or the number of a refusal
pub data Event : Type 0 where
  line : List ℕ → Event
  refusal : ℕ → Event

-- RULES 1.7: what a caller is told of a line
unfoldable pub shown : List ℕ → Event
shown l = cond (leb (length l) hold_length) (line l) (refusal 25)

-- what an answer tells, d being the hold that the call left
abbrev pub came_told : Came → List ℕ → List Event
came_told (Line n) d = line (take n d) ∷ []
came_told TooLong d = refusal (came_refusal TooLong) ∷ []
came_told NoLine d = []

abbrev pub told : Result Part Refusal → List ℕ → List Event
told (Ok p) d = came_told p.came d
told (Err r) d = refusal (number r) ∷ []

-- the bytes taken
abbrev pub bytes_taken : Result Part Refusal → ℕ
bytes_taken (Ok p) = p.taken
bytes_taken (Err r) = 0

-- the state for the next call
abbrev pub next_state : State → Result Part Refusal → State
next_state was (Ok p) = p.state
next_state was (Err r) = was

-- From a state, a hold and the bytes that are left on, calls with parts of these lengths tell these events: each call gets the first n bytes
-- that are left, or all where there are fewer, and the next one the state and the hold that it left, and the bytes that it did not take; the
-- end call comes when none is left.
pub data Run : List ℕ → State → List ℕ → List ℕ → List Event → Type 0 where
  call : {s : State} {d d' text lengths : List ℕ} {r : Result Part Refusal} {events : List Event} (n : ℕ) → TakesPart s (take n text) d d' r
      → Run lengths (next_state s r) d' (drop (bytes_taken r) text) events → Run (n ∷ lengths) s d text (told r d' ++ events)
  end : {s : State} {d d' : List ℕ} {r : Result Part Refusal} → EndsParts s d d' r → Run [] s d [] (told r d')
