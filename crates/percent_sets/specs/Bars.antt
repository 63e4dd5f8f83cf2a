-- Which bytes never come out where a set's text is encoded (RULES 6.2). Assumes nothing: these are definitions.
use Rattle.std.specs.Prelude.{ℕ, Bool}
use Rattle.percent_coder.specs.Coder.{barred}
use Rattle.percent_sets.specs.declared.Set.{Set}
use Rattle.percent_sets.specs.Sets.{escapes}

-- the bytes that a set escapes, but the percent sign and the hex digits
abbrev pub bars : Set → ℕ → Bool
bars set = barred (escapes set)
