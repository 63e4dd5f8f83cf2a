-- States and answers of the calls in parts as C has them, a case at a time (RULES 16). Assumes nothing: these are definitions.
use Rattle.std.specs.Prelude.{ℕ, cond, Result, Ok, Err, List, eqb}
use Rattle.base_refusals.specs.declared.Refusal.{Refusal}
use Rattle.base_refusals.specs.Refusal.{number}
use Rattle.read_parts.specs.declared.state.Tail.{Tail}
use Rattle.read_parts.specs.declared.state.Tail.TheVariants.{Fits, Waits, Long}
use Rattle.read_parts.specs.declared.state.State.{State}
use Rattle.read_parts.specs.declared.Part.{Part}
use Rattle.read_parts.specs.declared.Came.{Came}
use Rattle.read_parts.specs.declared.Came.TheVariants.{Line, TooLong, NoLine}
use Rattle.read_parts.specs.State.{holds}
use Rattle.read_parts.specs.Calls.{came_refusal, TakesPart, EndsParts}
use Rattle.c_answers.specs.Answers.{AsC}
use Rattle.c_parts.specs.declared.Gff3State.{Gff3State}
use Rattle.c_parts.specs.declared.Gff3Part.{Gff3Part}

-- ── the state ──

-- the tail of a number (RULES 16.1, 16.3): a number that names none counts as 2
abbrev pub tail_of_c : ℕ → Tail
tail_of_c n = cond (eqb n 0) Fits (cond (eqb n 1) Waits Long)

abbrev pub state_of_c : Gff3State → State
state_of_c s = holds s.held (tail_of_c s.tail)

abbrev pub c_tail : Tail → ℕ
c_tail Fits = 0
c_tail Waits = 1
c_tail Long = 2

abbrev pub c_state : State → Gff3State
c_state s = record { held = s.held; tail = c_tail s.tail }

-- ── answers ──

-- of what came of a line: whether a line is handed out, and its length, or 0
abbrev pub has_line : Came → ℕ
has_line (Line n) = 1
has_line TooLong = 0
has_line NoLine = 0

abbrev pub line_length : Came → ℕ
line_length (Line n) = n
line_length TooLong = 0
line_length NoLine = 0

-- the refusal's number, or 0, with the bytes taken and the state for the next call; `was` is the state that was handed in
abbrev pub c_came : Part → Gff3Part
c_came p =
    record {
      refused = came_refusal p.came;
      has_line = has_line p.came;
      length = line_length p.came;
      taken = p.taken;
      state = c_state p.state;
    }

abbrev pub c_part : Gff3State → Result Part Refusal → Gff3Part
c_part was (Ok p) = c_came p
c_part was (Err r) = record { refused = number r; has_line = 0; length = 0; taken = 0; state = was }

-- what the calls may give, d being the hold before and d' after
abbrev pub CTakesPart : Gff3State → List ℕ → List ℕ → List ℕ → Gff3Part → Type 0
CTakesPart s p d d' = AsC (c_part s) (TakesPart (state_of_c s) p d d')

abbrev pub CEndsParts : Gff3State → List ℕ → List ℕ → Gff3Part → Type 0
CEndsParts s d d' = AsC (c_part s) (EndsParts (state_of_c s) d d')
