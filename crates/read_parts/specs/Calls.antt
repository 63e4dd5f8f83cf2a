-- A call with a part, and the end call, in one step each (RULES 1.9 to 1.12). Assumes nothing: these are definitions.
use Rattle.std.specs.Prelude.{ℕ, ◌+◌, ◌≡◌, Bool, cond, not, ◌&&◌, ◌||◌, Result, Ok, Err, List, [], ◌∷◌, eqb, ltb, length, take, drop}
use Rattle.base_lists.specs.Bytes.{lf}
use Rattle.base_scan.specs.Find.{found}
use Rattle.base_buffer.specs.Answer.{Reason, ◌when◌}
use Rattle.base_refusals.specs.declared.Refusal.{Refusal}
use Rattle.base_refusals.specs.declared.Refusal.TheVariants as refusal
use Rattle.base_refusals.specs.Refusal.{number}
use Rattle.read_parts.specs.declared.state.State.{State}
use Rattle.read_parts.specs.declared.Part.{Part}
use Rattle.read_parts.specs.declared.Came.{Came}
use Rattle.read_parts.specs.declared.Came.TheVariants.{Line, TooLong, NoLine}
use Rattle.read_parts.specs.State.{hold_length, fresh, is_long, is_blank, skipped, behind_blank, grown, grown_hold, settled, settled_hold}

-- an answer by its three parts
abbrev pub part : Came → ℕ → State → Part
part came taken s = record { came = came; taken = taken; state = s }

-- the number of a refusal (RULES 10), or 0
abbrev pub came_refusal : Came → ℕ
came_refusal (Line n) = 0
came_refusal TooLong = number refusal.LineTooLong
came_refusal NoLine = 0

abbrev pub part_refusal : Result Part Refusal → ℕ
part_refusal (Ok p) = came_refusal p.came
part_refusal (Err r) = number r

-- RULES 1.12: 34 for a hold of another length, or a state that says it holds more
abbrev pub refuses : ℕ → ℕ → Bool
refuses held room = ltb hold_length held || not (eqb room hold_length)

-- a call from the state s over the hold d that is refused by 34, or else leaves `answer` and `hold`: the one answer r that it may give, and
-- the one hold d' behind it
pub record Leaves (s : State) (d : List ℕ) (answer : Part) (hold d' : List ℕ) (r : Result Part Refusal) : Type 0 where
  pub result : r ≡ cond (refuses s.held (length d)) (Err refusal.Hold) (Ok answer)
  pub left : d' ≡ cond (refuses s.held (length d)) d hold

-- the line ends
abbrev pub fed : State → ℕ → Part
fed s taken = part (cond (is_long s.tail) TooLong (Line s.held)) taken fresh

-- ── a call with a part p ──

-- the place of its first line feed, or its length
abbrev pub feed_at : List ℕ → ℕ
feed_at p = found lf 0 p

-- what it has of the line that is begun
abbrev pub of_line : List ℕ → List ℕ
of_line p = take (feed_at p) p

-- the state behind blank lines, and what is left of the part there
abbrev pub begun : State → List ℕ → State
begun s p = behind_blank s (skipped s p)

abbrev pub unskipped : State → List ℕ → List ℕ
unskipped s p = drop (skipped s p) p

-- behind blank lines: all of the rest is taken; or its line feed is the last byte taken, and the line ends
unfoldable pub take_part : State → List ℕ → Part
take_part s p =
    let rest = unskipped s p in
    let next = grown (begun s p) (of_line rest) in
    let taken = skipped s p + feed_at rest in
    cond (eqb (feed_at rest) (length rest)) (part NoLine taken next) (fed next (taken + 1))

-- a line feed comes, and the line is too long
abbrev pub ends_long : State → List ℕ → Bool
ends_long s p = let rest = unskipped s p in ltb (feed_at rest) (length rest) && is_long (grown (begun s p) (of_line rest)).tail

-- the reasons to refuse, in their order (RULES 11.9), where the hold has so many bytes
abbrev pub take_reasons : State → List ℕ → ℕ → List Reason
take_reasons s p room = (refusal.Hold when refuses s.held room) ∷ (refusal.LineTooLong when ends_long s p) ∷ []

-- what `take_part` may give
abbrev pub TakesPart : State → List ℕ → List ℕ → List ℕ → Result Part Refusal → Type 0
TakesPart s p d = Leaves s d (take_part s p) (grown_hold (begun s p) (of_line (unskipped s p)) d)

-- ── the end call ──

-- a line ends, unless it is blank
abbrev pub ended : State → Part
ended s = cond (is_blank s) (part NoLine 0 fresh) (fed s 0)

abbrev pub end_reasons : State → ℕ → List Reason
end_reasons s room = (refusal.Hold when refuses s.held room) ∷ (refusal.LineTooLong when is_long (settled s).tail) ∷ []

-- what `end_parts` may give
abbrev pub EndsParts : State → List ℕ → List ℕ → Result Part Refusal → Type 0
EndsParts s d = Leaves s d (ended (settled s)) (settled_hold s d)
