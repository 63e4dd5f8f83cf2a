-- What the functions of a state do that is not refused by 34: the state that they answer and the hold that they leave, d being the hold
-- before and d' after. Assumes nothing: these are definitions.
use Rattle.std.specs.Prelude.{ℕ, ◌≤◌, ◌≡◌, List, length}
use Rattle.read_lines.specs.Lines.{chomped}
use Rattle.read_parts.specs.declared.state.Tail.{Tail}
use Rattle.read_parts.specs.declared.state.Tail.TheVariants.{Fits}
use Rattle.read_parts.specs.declared.state.State.{State}
use Rattle.read_parts.specs.State.{hold_length, waiting, ending, stored, stored_hold, new}

pub record Ready (s : State) (d : List ℕ) : Type 0 where
  pub within : s.held ≤ hold_length
  pub room : length d ≡ hold_length

pub record Stores (s : State) (bytes : List ℕ) (tail : Tail) (d d' : List ℕ) (r : State) : Type 0 where
  pub result : r ≡ stored s bytes tail
  pub left : d' ≡ stored_hold s bytes d

abbrev pub Grows : State → List ℕ → List ℕ → List ℕ → State → Type 0
Grows s bytes = Stores s (chomped (new s bytes)) (ending (new s bytes))

abbrev pub Settles : State → List ℕ → List ℕ → State → Type 0
Settles s = Stores s (waiting s.tail) Fits
