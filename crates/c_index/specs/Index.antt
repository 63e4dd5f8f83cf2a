-- The bounds of a line as C has them, a case at a time (RULES 16). Assumes nothing: these are definitions.
use Rattle.std.specs.Prelude.{Result, Ok, Err}
use Rattle.base_refusals.specs.declared.Refusal.{Refusal}
use Rattle.base_refusals.specs.Refusal.{number}
use Rattle.read_columns.specs.declared.bounds.Bounds.{Bounds}
use Rattle.c_answers.specs.Answers.{c_bounds, no_bounds}
use Rattle.c_index.specs.declared.Gff3Indexed.{Gff3Indexed}

abbrev pub c_indexed : Result Bounds Refusal → Gff3Indexed
c_indexed (Ok b) = record { refused = 0; bounds = c_bounds b }
c_indexed (Err r) = record { refused = number r; bounds = no_bounds }
