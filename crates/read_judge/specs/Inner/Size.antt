-- How long the parts of a sheet are. Assumes nothing: these are definitions.
use Rattle.std.specs.Prelude.{ℕ, ◌+◌, length}
use Rattle.sheet_form.specs.Sheet.{Sheet}

-- how long the first four sections of a sheet are
abbrev pub texts_length : Sheet → ℕ
texts_length s = 16 + length s.name + length s.source + length s.type + length s.score
