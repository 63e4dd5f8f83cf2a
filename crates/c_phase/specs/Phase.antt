-- The phase of a record as C has it, a case at a time (RULES 16). Assumes nothing: these are definitions.
use Rattle.std.specs.Prelude.{Result, Ok, Err}
use Rattle.base_refusals.specs.declared.Refusal.{Refusal}
use Rattle.base_refusals.specs.Refusal.{number}
use Rattle.read_tokens.specs.declared.phase.Phase.{Phase}
use Rattle.read_tokens.specs.Tokens.{phase_number}
use Rattle.c_answers.specs.declared.Gff3Number.{Gff3Number}

abbrev pub c_phase : Result Phase Refusal → Gff3Number
c_phase (Ok phase) = record { refused = 0; value = phase_number phase }
c_phase (Err r) = record { refused = number r; value = 0 }
