-- What is promised of calls in a row: RULES 1.6, 1.7. proofs/Sameness.antt proves it. Assumes nothing: these are definitions.
use Rattle.std.specs.Prelude.{ℕ, ◌<◌, ◌≡◌, ◌≢◌, false, Result, Ok, List, [], ◌++◌, map, length}
use Rattle.base_lists.specs.Bytes.{Every}
use Rattle.base_refusals.specs.declared.Refusal.{Refusal}
use Rattle.read_lines.specs.Lines.{lines}
use Rattle.read_parts.specs.declared.state.State.{State}
use Rattle.read_parts.specs.declared.Part.{Part}
use Rattle.read_parts.specs.declared.Came.TheVariants.{NoLine}
use Rattle.read_parts.specs.State.{fresh}
use Rattle.read_parts.specs.Calls.{part, refuses, TakesPart, EndsParts}
use Rattle.read_parts.specs.Run.{Event, refusal, shown, bytes_taken, next_state, Run}

-- a text, over a hold that held d before
pub record Sameness (d text : List ℕ) : Type 0 where
  -- however the text is cut, what is told is the lines of the whole text in order, each of more than 65,536 bytes as 25
  pub same : {lengths : List ℕ} {events : List Event} → Run lengths fresh d text events → events ≡ map shown (lines text)
  -- so no call was refused by 34
  pub never_34 : {lengths : List ℕ} {events : List Event} → Run lengths fresh d text events → Every (λ e. e ≢ refusal 34) events
  -- and no way to cut it comes to a stop: calls with parts of any lengths, empty ones too, can go on to the text's end
  pub goes_on : (lengths : List ℕ) → (more : List ℕ) × (events : List Event) × Run (lengths ++ more) fresh d text events

-- one call; proofs/Sameness.antt has it (`one_call`) of each state and hold that are not refused by 34
pub record OneCall (s : State) (d d' : List ℕ) (r : Result Part Refusal) : Type 0 where
  -- of a part that has a byte, one at least is taken: calls with such parts come to the text's end
  pub takes_some : (p : List ℕ) → TakesPart s p d d' r → 0 < length p → 0 < bytes_taken r
  -- an empty part changes nothing
  pub takes_none : TakesPart s [] d d' r → (r ≡ Ok (part NoLine 0 s)) × (d' ≡ d)
  -- the next call is not refused by 34 either
  pub next_ready : (p : List ℕ) → TakesPart s p d d' r → refuses (next_state s r).held (length d') ≡ false
  -- the end call leaves a fresh state
  pub ends_fresh : EndsParts s d d' r → next_state s r ≡ fresh
