-- The score of a record as C has it, a case at a time (RULES 16). Assumes nothing: these are definitions.
use Rattle.std.specs.Prelude.{Option, None, Some, Result, Ok, Err}
use Rattle.base_refusals.specs.declared.Refusal.{Refusal}
use Rattle.base_refusals.specs.Refusal.{number}
use Rattle.base_scan.specs.declared.place.Place.{Place}
use Rattle.c_score.specs.declared.Gff3ScoreText.{Gff3ScoreText}

abbrev pub c_score : Result (Option Place) Refusal → Gff3ScoreText
c_score (Ok None) = record { refused = 0; missing = 1; start = 0; end = 0 }
c_score (Ok (Some place)) = record { refused = 0; missing = 0; start = place.start; end = place.end }
c_score (Err r) = record { refused = number r; missing = 0; start = 0; end = 0 }
