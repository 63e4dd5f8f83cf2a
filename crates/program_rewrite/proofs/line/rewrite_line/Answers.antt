-- `rewrite_line`, by the line's kind. Assumes nothing.
use Rattle.program_rewrite.specs.Rewrite.{line_rewritten}
use Rattle.program_rewrite.proofs.line.rewrite_line.Goals as goal

pub returns-in-Record : goal.returns-in-Record
unfolding line_rewritten
returns-in-Record c = rw (← c.kind_of.ensures, c.in-Record.is) c.rewrite_record.ensures

pub returns-in-Comment : goal.returns-in-Comment
unfolding line_rewritten
returns-in-Comment c = rw (← c.kind_of.ensures, c.in-Comment.is)

pub returns-in-Directive : goal.returns-in-Directive
unfolding line_rewritten
returns-in-Directive c = rw (← c.kind_of.ensures, c.in-Directive.is)
