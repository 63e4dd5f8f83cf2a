-- The sets as C has them (RULES 16.1, 16.3). Assumes nothing: these are definitions.
use Rattle.std.specs.Prelude.{ℕ, cond, eqb}
use Rattle.percent_sets.specs.declared.Set.{Set}
use Rattle.percent_sets.specs.declared.Set.TheVariants as set

-- the set of a number (RULES 16.1, 16.3): 2 for columns 2 and 3, 3 for tags and values, 1 or another for column 1. That one escapes all
-- that the other two do (`name_escapes_most` in percent_sets/proofs/SetLaws.antt)
abbrev pub set_of_c : ℕ → Set
set_of_c n = cond (eqb n 2) set.Column (cond (eqb n 3) set.Attribute set.Name)
