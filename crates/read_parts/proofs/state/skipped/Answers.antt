-- `skipped`: none, where bytes are held; else by the tail. Assumes nothing.
use native.Mathlib.Nat.{zero-add}
use mathlib.Core.Path.{sym, ◌∙◌}
use borrow.Author.Tests.{ne_eqb}
use Rattle.read_parts.proofs.SkipLaws.{skips_none, skipped_fits, skipped_waits, skipped_long}
use Rattle.read_parts.proofs.state.skipped.Goals as goal

pub returns-then-state-ne0 : goal.returns-then-state-ne0
returns-then-state-ne0 c = sym (skips_none _ _ (rw (ne_eqb _ _ c.if-state-ne0.true)))

pub returns-in-Fits : goal.returns-in-Fits
returns-in-Fits c = c.past_blank.ensures ∙ zero-add _ ∙ sym (skipped_fits _ _ c.if-state-ne0.false c.in-Fits.is)

pub returns-in-Waits : goal.returns-in-Waits
returns-in-Waits c = c.skipped_behind_return.ensures ∙ sym (skipped_waits _ _ c.if-state-ne0.false c.in-Waits.is)

pub returns-in-Long : goal.returns-in-Long
returns-in-Long c = sym (skipped_long _ _ c.if-state-ne0.false c.in-Long.is)
