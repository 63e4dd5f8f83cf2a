-- `write_again`: the line, or a refusal over it. Assumes nothing.
use mathlib.Core.Path.{◌∙◌}
use Rattle.program_rewrite.proofs.RewriteLaws.{writes}
use Rattle.program_rewrite.proofs.line.write_again.Goals as goal

pub returns-in-Ok : goal.returns-in-Ok
returns-in-Ok c =
    writes c.args.sheet.now c.args.numbers c.strand_number-strand.ensures c.phase_number-phase.ensures
    c.write_record.ensures c.requires c.in-Ok.is

pub returns-in-Err : goal.returns-in-Err
returns-in-Err c =
    c.refuse.ensures
    ∙ writes c.args.sheet.now c.args.numbers c.strand_number-strand.ensures c.phase_number-phase.ensures
    c.write_record.ensures c.requires c.in-Err.is
