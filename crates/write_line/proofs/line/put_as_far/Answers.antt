-- `put_as_far`: the sheet has the form where it was passed to its end. Assumes nothing.
use Rattle.sheet_form.proofs.PastLaws.{past_ended, past_unended, past_whole}
use Rattle.write_line.specs.Record.{record_line}
use Rattle.write_line.proofs.line.put_as_far.Goals as goal

pub returns-in-Some-clause-form : goal.returns-in-Some-clause-form
returns-in-Some-clause-form g c = past_ended _ c.put_columns.ensures c.in-Some.is

pub returns-in-Some-clause-line : goal.returns-in-Some-clause-line
unfolding record_line
returns-in-Some-clause-line g c s e = rw e (past_whole c.put_columns.ensures s e)

pub returns-in-None-clause-form : goal.returns-in-None-clause-form
returns-in-None-clause-form g c = past_unended c.put_columns.ensures c.in-None.is

pub returns-in-None-clause-line : goal.returns-in-None-clause-line
unfolding record_line
returns-in-None-clause-line g c s e = rw e (past_whole c.put_columns.ensures s e)
