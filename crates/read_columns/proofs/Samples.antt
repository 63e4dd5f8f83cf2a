-- Samples of RULES 14, computed. Assumes nothing.
use Rattle.std.proofs.Common.{◌≡◌, refl}
use Rattle.base_lists.specs.Bytes.{ascii}
use Rattle.std.specs.Prelude.{Ok, Err}
use Rattle.base_refusals.specs.declared.Refusal.TheVariants as refusal
use Rattle.read_columns.specs.Columns.{past_tab, ends, indexed}

samples :
    (indexed (ascii "a\t\t\t\t\t\t\t") ≡ Err refusal.Columns)
    × (indexed (ascii "\t\t\t\t\t\t\t\t")
    ≡ Ok (record { reference_sequence_name_end = 1; source_end = 2; type_end = 3; start_end = 4; end_end = 5; score_end = 6; strand_end = 7; phase_end = 8 }))
unfolding past_tab ends indexed
samples = (refl, refl)
