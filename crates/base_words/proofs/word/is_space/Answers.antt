-- `is_space` answers `is_space`. Assumes nothing.
use mathlib.Core.Bool.{or_assoc, or-false}
use Rattle.base_words.specs.Word.{is_space}
use Rattle.base_words.proofs.word.is_space.Goals as goal

pub returns : goal.returns
unfolding is_space
returns c = simp (or_assoc, or-false)
