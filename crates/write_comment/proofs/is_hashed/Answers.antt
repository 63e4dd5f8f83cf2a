-- `is_hashed` answers `hashed`: by the first byte, if there is one. Assumes nothing.
use Rattle.std.specs.Prelude.{◌≡◌, ℕ, List, [], ◌∷◌, Some, eqb}
use Rattle.std.specs.Option.{option_eq}
use Rattle.std.specs.List.{slice_get}
use mathlib.Core.Path.{refl, ◌∙◌}
use Rattle.base_lists.specs.Bytes.{hash}
use Rattle.write_comment.specs.Comment.{hashed}
use Rattle.write_comment.proofs.is_hashed.Goals as goal

by_first : (s : List ℕ) → option_eq eqb (slice_get s 0) (Some hash) ≡ hashed s
unfolding hashed
by_first [] = refl
by_first (x ∷ s) = refl

pub returns : goal.returns
returns c = c.eq.ensures ∙ rw (c.copied.ensures, c.first.ensures.value) (by_first _)
