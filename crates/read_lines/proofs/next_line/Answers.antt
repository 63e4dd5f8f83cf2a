-- `next_line` answers `next_line`. Assumes nothing.
use native.Mathlib.Omega.{arith}
use lib.ListN.{length}
use borrow.Author.Tests.{eq-eqb, ne_eqb, le-leb, lt-leb}
use Rattle.read_lines.specs.Step.{next_line}
use Rattle.read_lines.proofs.next_line.Goals as goal

pub returns-then-text-at : goal.returns-then-text-at
unfolding next_line
returns-then-text-at c = rw (← c.past_blank-at.ensures, le-leb _ _ c.if-text-at.true)

pub returns-then-feed-text : goal.returns-then-feed-text
unfolding next_line
returns-then-feed-text c =
    rw (
      ← c.past_blank-at.ensures,
      lt-leb _ _ c.if-text-at.false,
      ← c.find-feed.ensures.first,
      eq-eqb c.find-feed.result (length c.args.text.now) (omega (arith, c.if-feed-text.true)),
    )

pub returns : goal.returns
unfolding next_line
returns c =
    rw (
      ← c.past_blank-at.ensures,
      lt-leb _ _ c.if-text-at.false,
      ← c.find-feed.ensures.first,
      ne_eqb c.find-feed.result (length c.args.text.now) (λ same. c.if-feed-text.false (omega (arith, same))),
      c.chomp-end.ensures,
    )
