-- The strand of a record as C has it, a case at a time (RULES 16). Assumes nothing: these are definitions.
use Rattle.std.specs.Prelude.{Result, Ok, Err}
use Rattle.base_refusals.specs.declared.Refusal.{Refusal}
use Rattle.base_refusals.specs.Refusal.{number}
use Rattle.read_tokens.specs.declared.strand.Strand.{Strand}
use Rattle.read_tokens.specs.Tokens.{strand_number}
use Rattle.c_answers.specs.declared.Gff3Number.{Gff3Number}

abbrev pub c_strand : Result Strand Refusal → Gff3Number
c_strand (Ok strand) = record { refused = 0; value = strand_number strand }
c_strand (Err r) = record { refused = number r; value = 0 }
