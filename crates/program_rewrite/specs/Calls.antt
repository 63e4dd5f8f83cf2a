-- What a read of standard input answers, RULES 13. Assumes nothing: these are definitions.
use Rattle.std.specs.Prelude.{ℕ, ◌≤◌, Option, None, Some, Result, Ok, Err}

-- how many bytes came, or nothing where it failed, which is no end of the input
abbrev pub outcome : {E : Type 0} → Result ℕ E → Option ℕ
outcome (Ok n) = Some n
outcome (Err e) = None

-- no more came than there is room for
abbrev pub Within : Option ℕ → ℕ → Type 0
Within None n = Unit {0}
Within (Some k) n = k ≤ n
