-- A part of a text. Assumes nothing: these are definitions.
use Rattle.std.specs.Prelude.{ℕ, ◌-◌, List, take, drop}
use Rattle.base_scan.specs.declared.place.Place.{Place}

-- what stands from a on, before e; a place past the end counts as at the end
abbrev pub part : ℕ → ℕ → List ℕ → List ℕ
part a e s = take (e - a) (drop a s)

-- what stands at a place
abbrev pub text_at : Place → List ℕ → List ℕ
text_at p s = part p.start p.end s
