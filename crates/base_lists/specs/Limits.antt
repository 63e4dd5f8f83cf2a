-- How long a text may be that is read or written: RULES 12. Assumes nothing: these are definitions.
use Rattle.std.specs.Prelude.{ℕ}

-- a text or a sheet that is written
abbrev pub most_text : ℕ
most_text = 1048576

-- a line that is unfolded
abbrev pub most_line : ℕ
most_line = 4194304
