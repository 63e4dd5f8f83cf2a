-- `put_piece`: an escape, or the byte. Assumes nothing.
use mathlib.Core.Path.{◌≡◌, sym, ◌∙◌}
use borrow.Author.Rules.{rules}
use Rattle.percent_coding.specs.Percent.{piece}
use Rattle.percent_sets.specs.Sets.{escapes}
use Rattle.percent_sets.proofs.ClassLaws.{by_classes}
use Rattle.percent_encode.proofs.put.put_piece.Goals as goal

pub returns-then-escaped_by : goal.returns-then-escaped_by
unfolding piece
returns-then-escaped_by g c =
    let told : (let a = c.args in escapes a.set a.b ≡ c.escaped_by.result) = sym (c.escaped_by.ensures ∙ by_classes c.requires c.args.set c.args.b (search rules)) in
    rw (told ∙ c.if-escaped_by.true) c.put_escape.ensures

pub returns-else-escaped_by : goal.returns-else-escaped_by
unfolding piece
returns-else-escaped_by g c =
    let told : (let a = c.args in escapes a.set a.b ≡ c.escaped_by.result) = sym (c.escaped_by.ensures ∙ by_classes c.requires c.args.set c.args.b (search rules)) in
    rw (told ∙ c.if-escaped_by.false) c.byte.ensures
