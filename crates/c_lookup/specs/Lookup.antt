-- An attribute by its tag as C has it, a case at a time (RULES 16). Assumes nothing: these are definitions.
use Rattle.std.specs.Prelude.{Option, Some, None, Result, Ok, Err}
use Rattle.base_refusals.specs.declared.Refusal.{Refusal}
use Rattle.base_refusals.specs.Refusal.{number}
use Rattle.base_scan.specs.declared.place.Place.{Place}
use Rattle.c_lookup.specs.declared.Gff3Found.{Gff3Found}

abbrev pub c_found : Result (Option Place) Refusal → Gff3Found
c_found (Ok (Some place)) = record { refused = 0; found = 1; start = place.start; end = place.end }
c_found (Ok None) = record { refused = 0; found = 0; start = 0; end = 0 }
c_found (Err r) = record { refused = number r; found = 0; start = 0; end = 0 }
