-- `is_stuck`: by what stands behind the last `=`. Assumes nothing.
use native.Mathlib.Omega.{arith}
use mathlib.Core.Path.{sym, ◌∙◌}
use Rattle.base_lists.specs.Bytes.{equals}
use Rattle.base_scan.proofs.LastLaws.{last_le}
use Rattle.read_judge.proofs.StuckLaws.{empty_unstuck, unequal_stuck, last_stuck}
use Rattle.read_judge.proofs.admitting.is_stuck.Goals as goal

pub returns-then-is_empty : goal.returns-then-is_empty
returns-then-is_empty c = sym (empty_unstuck c.args.column.now (sym c.is_empty.ensures ∙ c.if-is_empty.true))

pub returns-then-column-equals : goal.returns-then-column-equals
returns-then-column-equals c =
    let s = c.args.column.now in
    sym (unequal_stuck s (sym c.is_empty.ensures ∙ c.if-is_empty.false) (omega (arith, c.find_last-equals.ensures, last_le equals s)))

pub overflow_sub-result : goal.overflow_sub-result
overflow_sub-result c = c.find-end.ensures.within

pub returns : goal.returns
returns c =
    let s = c.args.column.now in
    rw c.find-end.ensures.first
    (sym (last_stuck s (sym c.is_empty.ensures ∙ c.if-is_empty.false) c.find_last-equals.ensures c.if-column-equals.false))
