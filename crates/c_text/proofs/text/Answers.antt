-- `text` writes as the reader of the column does. Assumes nothing.
use borrow.Author.Tests.{ne_eqb}
use Rattle.base_buffer.proofs.AnswerLaws.{wrote_refused}
use Rattle.c_text.proofs.text.Goals as goal

pub returns-in-1 : goal.returns-in-1
returns-in-1 c = rw c.in-1.is c.reference_sequence_name.ensures

pub returns-in-2 : goal.returns-in-2
returns-in-2 c = rw c.in-2.is c.source.ensures

pub returns-in-3 : goal.returns-in-3
returns-in-3 c = rw c.in-3.is c.ty.ensures

pub returns-in_default : goal.returns-in_default
returns-in_default c = let r = c.in_default.in_default-own.rest in wrote_refused (rw (ne_eqb _ 1 c.in_default.in_default-own.rest.0.0.1, ne_eqb _ 2 c.in_default.in_default-own.rest.0.1, ne_eqb _ 3 c.in_default.in_default-own.rest.1))
