-- Why a directive is refused, RULES 8.3. Assumes nothing: these are definitions.
use Rattle.std.specs.Prelude.{ℕ, false, ◌||◌, List, [], ◌∷◌}
use Rattle.base_words.specs.Word.{is_space}
use Rattle.base_refusals.specs.declared.Refusal.TheVariants as refusal
use Rattle.base_buffer.specs.Answer.{Reason, ◌when◌}
use Rattle.write_texts.specs.Text.{holds, long}
use Rattle.write_directive.specs.declared.judge.Faults.{Faults}

-- of a value with which nothing is wrong
abbrev pub no_faults : Faults
no_faults = record { long = false; foreign = false; unfit = false; minorless = false; zero = false }

-- why a directive is refused, in order (24, 21, 19, 20, 9, 2), by its key and the faults of its value
unfoldable pub reasons : List ℕ → Faults → List Reason
reasons key faults =
    (refusal.TooLong when long key || faults.long)
    ∷ (refusal.ValueKey when faults.foreign)
    ∷ (refusal.Key when holds is_space key)
    ∷ (refusal.Text when faults.unfit)
    ∷ (refusal.Patch when faults.minorless)
    ∷ (refusal.Position when faults.zero)
    ∷ []
