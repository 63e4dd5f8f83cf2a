-- The state between two calls, and how the line that is begun goes on (RULES 1.8 to 1.10; GFF3, Description of the Format): state and hold as
-- they are behind blank lines, and behind more bytes of the line. Assumes nothing: these are definitions.
use Rattle.std.specs.Prelude.{ℕ, ◌+◌, ◌-◌, Bool, true, false, cond, not, ◌&&◌, List, [], ◌∷◌, ◌++◌, eqb, ltb, length}
use Rattle.base_lists.specs.Bytes.{cr}
use Rattle.base_buffer.specs.Laid.{laid}
use Rattle.read_lines.specs.Blank.{blank_run}
use Rattle.read_lines.specs.Lines.{chomped}
use Rattle.read_parts.specs.declared.state.Tail.{Tail}
use Rattle.read_parts.specs.declared.state.Tail.TheVariants.{Fits, Waits, Long}
use Rattle.read_parts.specs.declared.state.State.{State}

-- the hold's length, and the most bytes of a line that is handed out
abbrev pub hold_length : ℕ
hold_length = 65536

-- a state by its two parts
abbrev pub holds : ℕ → Tail → State
holds held tail = record { held = held; tail = tail }

-- no line is begun
abbrev pub fresh : State
fresh = holds 0 Fits

abbrev pub is_long : Tail → Bool
is_long Fits = false
is_long Waits = false
is_long Long = true

-- no byte of the line is sure to stay: so far it is blank
abbrev pub is_blank : State → Bool
is_blank s = eqb s.held 0 && not (is_long s.tail)

-- ── a carriage return whose fate is open ──

-- what waits behind the held bytes
abbrev pub waiting : Tail → List ℕ
waiting Fits = []
waiting Waits = cr ∷ []
waiting Long = []

-- bytes that end in a carriage return leave it waiting; `chomped` is what is sure to stay of them
unfoldable pub ending : List ℕ → Tail
ending [] = Fits
ending (x ∷ []) = cond (eqb x cr) Waits Fits
ending (x ∷ y ∷ bytes) = ending (y ∷ bytes)

-- what is new of the line with more bytes: what waited, and they
abbrev pub new : State → List ℕ → List ℕ
new s bytes = waiting s.tail ++ bytes

-- ── blank lines ──

-- so many bytes of a part belong to blank lines: those that it begins with behind what waited, where the line is blank so far
unfoldable pub skipped : State → List ℕ → ℕ
skipped s p = cond (is_blank s) (blank_run (new s p) - length (waiting s.tail)) 0

-- the state behind n such bytes: what waited was theirs
unfoldable pub behind_blank : State → ℕ → State
behind_blank s n = cond (eqb n 0) s fresh

-- ── bytes that are sure to stay ──

-- the state behind them: as it was, where the line is too long already; too long, where the hold has no room for them; else by `tail`
unfoldable pub stored : State → List ℕ → Tail → State
stored s bytes tail =
    let n = s.held + length bytes in
    cond (is_long s.tail) s (cond (ltb hold_length n) (holds hold_length Long) (holds n tail))

-- the hold behind them: they stand behind what is held, as far as there is room
unfoldable pub stored_hold : State → List ℕ → List ℕ → List ℕ
stored_hold s bytes d = cond (is_long s.tail) d (laid d s.held bytes)

-- ── more bytes of the line, none of them a line feed ──

abbrev pub grown : State → List ℕ → State
grown s bytes = stored s (chomped (new s bytes)) (ending (new s bytes))

abbrev pub grown_hold : State → List ℕ → List ℕ → List ℕ
grown_hold s bytes d = stored_hold s (chomped (new s bytes)) d

-- ── no more bytes: what waited, stays ──

abbrev pub settled : State → State
settled s = stored s (waiting s.tail) Fits

abbrev pub settled_hold : State → List ℕ → List ℕ
settled_hold s d = stored_hold s (waiting s.tail) d
