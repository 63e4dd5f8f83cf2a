-- The first four sections of a sheet. Assumes nothing: these are definitions.
use Rattle.std.specs.Prelude.{ℕ, List, ◌++◌}
use Rattle.sheet_form.specs.Sheet.{Sheet, section_of}

abbrev pub texts_of : Sheet → List ℕ
texts_of s = section_of s.name ++ (section_of s.source ++ (section_of s.type ++ section_of s.score))
