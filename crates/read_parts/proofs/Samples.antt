-- Samples, computed: RULES 1.9 a row of its table at a time, a carriage return at the limit, and the end call. Assumes nothing.
use mathlib.Core.Path.{◌≡◌, refl}
use mathlib.Core.List.{[], ◌∷◌}
use Rattle.base_lists.specs.Bytes.{lf, cr, sp}
use Rattle.base_scan.specs.Find.{index, seek}
use Rattle.read_lines.specs.Blank.{blank_run}
use Rattle.read_lines.specs.Lines.{chomped}
use Rattle.read_parts.specs.declared.state.Tail.TheVariants.{Fits, Waits, Long}
use Rattle.read_parts.specs.declared.Came.TheVariants.{Line, TooLong, NoLine}
use Rattle.read_parts.specs.State.{holds, fresh, ending, skipped, behind_blank, stored, grown, settled}
use Rattle.read_parts.specs.Calls.{part, take_part, ended}

-- a carriage return, and any other byte
bytes :
    (grown (holds 7 Fits) (cr ∷ []) ≡ holds 7 Waits)
    × (grown (holds 7 Fits) (97 ∷ []) ≡ holds 8 Fits)
    × (grown (holds 65536 Fits) (cr ∷ []) ≡ holds 65536 Waits)
    × (grown (holds 65536 Fits) (97 ∷ []) ≡ holds 65536 Long)
    × (grown (holds 7 Waits) (cr ∷ []) ≡ holds 8 Waits)
    × (grown (holds 7 Waits) (97 ∷ []) ≡ holds 9 Fits)
    × (grown (holds 65535 Waits) (97 ∷ []) ≡ holds 65536 Long)
    × (grown (holds 65536 Waits) (cr ∷ []) ≡ holds 65536 Long)
    × (grown (holds 65536 Waits) (97 ∷ []) ≡ holds 65536 Long)
    × (grown (holds 7 Long) (cr ∷ []) ≡ holds 7 Long)
    × (grown (holds 7 Long) (97 ∷ []) ≡ holds 7 Long)
unfolding chomped ending stored
bytes = (refl, refl, refl, refl, refl, refl, refl, refl, refl, refl, refl)

-- a line feed
feeds :
    (take_part (holds 7 Waits) (lf ∷ []) ≡ part (Line 7) 1 fresh)
    × (take_part (holds 65536 Fits) (cr ∷ lf ∷ []) ≡ part (Line 65536) 2 fresh)
    × (take_part (holds 65536 Waits) (lf ∷ []) ≡ part (Line 65536) 1 fresh)
    × (take_part (holds 65536 Fits) (cr ∷ cr ∷ lf ∷ []) ≡ part TooLong 3 fresh)
    × (take_part (holds 65535 Fits) (cr ∷ cr ∷ lf ∷ []) ≡ part (Line 65536) 3 fresh)
    × (take_part (holds 7 Long) (97 ∷ lf ∷ []) ≡ part TooLong 2 fresh)
    × (take_part (holds 7 Waits) [] ≡ part NoLine 0 (holds 7 Waits))
unfolding chomped ending skipped behind_blank blank_run stored take_part seek index
feeds = (refl, refl, refl, refl, refl, refl, refl)

-- blank lines, also with a carriage return that waits; a line of CR, and one of a space, are none
blanks :
    (take_part fresh (lf ∷ cr ∷ lf ∷ lf ∷ []) ≡ part NoLine 4 fresh)
    × (take_part fresh (lf ∷ cr ∷ lf ∷ cr ∷ []) ≡ part NoLine 4 (holds 0 Waits))
    × (take_part (holds 0 Waits) (lf ∷ lf ∷ 97 ∷ lf ∷ lf ∷ []) ≡ part (Line 1) 4 fresh)
    × (take_part (holds 0 Waits) (cr ∷ lf ∷ []) ≡ part (Line 1) 2 fresh)
    × (take_part (holds 0 Waits) [] ≡ part NoLine 0 (holds 0 Waits))
    × (take_part fresh (lf ∷ sp ∷ lf ∷ []) ≡ part (Line 1) 3 fresh)
    × (take_part (holds 0 Long) (lf ∷ []) ≡ part TooLong 1 fresh)
unfolding chomped ending skipped behind_blank blank_run stored take_part seek index
blanks = (refl, refl, refl, refl, refl, refl, refl)

-- the end call
ends :
    (ended (settled fresh) ≡ part NoLine 0 fresh)
    × (ended (settled (holds 0 Waits)) ≡ part (Line 1) 0 fresh)
    × (ended (settled (holds 65535 Waits)) ≡ part (Line 65536) 0 fresh)
    × (ended (settled (holds 65536 Fits)) ≡ part (Line 65536) 0 fresh)
    × (ended (settled (holds 65536 Waits)) ≡ part TooLong 0 fresh)
    × (ended (settled (holds 0 Long)) ≡ part TooLong 0 fresh)
unfolding stored
ends = (refl, refl, refl, refl, refl, refl)
