-- `take_part`: refused; or blank lines are passed, the bytes before the next line feed come, and it, if there is one. Assumes nothing.
use mathlib.Core.Path.{◌≡◌, sym, ap, ◌∙◌}
use Rattle.std.specs.Prelude.{Ok}
use Prim.Native.Nat.{◌≤◌}
use borrow.Author.Tests.{eq-eqb, ne_eqb}
use lib.ListN.{length}
use mathlib.Core.Bool.{false}
use Rattle.read_parts.specs.Calls.{refuses}
use Rattle.read_parts.proofs.SkipLaws.{skipped_le, rest_is}
use Rattle.read_parts.proofs.StoreLaws.{behind_ready}
use Rattle.read_parts.proofs.CallLaws.{ready, passes, takes}
use Rattle.read_parts.proofs.take_part.Goals as goal
use Rattle.read_parts.proofs.take_part.Goals.{After-skipped-from, In_ok-accepts}

-- 34 is not given
accepted : (c : In_ok-accepts) → let a = c.args in refuses a.state.held (length a.hold.now) ≡ false
accepted c = let a = c.args in passes a.state.held (length a.hold.now) (sym c.accepts.ensures ∙ c.in_ok-accepts.was)

-- what is skipped lies in the part
inside : (c : After-skipped-from) → c.skipped-from.result ≤ length c.args.part.now
inside c = rw c.skipped-from.ensures (skipped_le _ c.args.part.now)

pub slice_bounds-rest-count : goal.slice_bounds-rest-count
slice_bounds-rest-count c = inside (goal.at.slice_bounds-rest-count c).After-skipped-from

pub slice_bounds-rest-start : goal.slice_bounds-rest-start
slice_bounds-rest-start c = inside (goal.at.slice_bounds-rest-start c).After-skipped-from

pub grow-next-requires : goal.grow-next-requires
grow-next-requires c = rw c.behind_blank-begun.ensures (behind_ready _ (ready _ _ (accepted (goal.at.grow-next-requires c).In_ok-accepts)))

pub returns-then-feed-rest : goal.returns-then-feed-rest
returns-then-feed-rest c =
    let p = c.args.part.now in
    takes (accepted (goal.at.returns-then-feed-rest c).In_ok-accepts) p
    c.skipped-from.ensures c.behind_blank-begun.ensures (rest_is _ p) c.find-feed.ensures.first c.grow-next.ensures
    (rw (eq-eqb _ _ c.if-feed-rest.true))

pub returns : goal.returns
returns c =
    let p = c.args.part.now in
    takes (accepted (goal.at.returns c).In_ok-accepts) p
    c.skipped-from.ensures c.behind_blank-begun.ensures (rest_is _ p) c.find-feed.ensures.first c.grow-next.ensures
    (rw (ne_eqb _ _ c.if-feed-rest.false) (ap Ok c.fed.ensures))
