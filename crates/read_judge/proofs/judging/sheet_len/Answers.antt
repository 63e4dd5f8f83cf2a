-- `sheet_len`: the first four sections, the count of the attributes, and the attributes. Assumes nothing.
use Prim.Native.Nat.{◌+◌, ◌*◌, ◌≤◌}
use native.Mathlib.Omega.{arith}
use mathlib.Core.Path.{◌≡◌}
use mathlib.Core.List.{flat_map}
use lib.ListN.{length}
use Rattle.sheet_form.specs.Sheet.{attribute_of}
use Rattle.sheet_form.proofs.LengthLaws.{length_sheet}
use Rattle.read_judge.specs.Judge.{unfolded}
use Rattle.read_judge.proofs.SurveyLaws.{attributes_short}
use Rattle.read_judge.proofs.judging.sheet_len.Goals as goal
use Rattle.read_judge.proofs.judging.sheet_len.Goals.{After-attributes_len}

-- the attributes' bytes, which are few
measured : (c : After-attributes_len)
    → let line = c.args.line.now in
    (c.attributes_len.result ≡ length (flat_map attribute_of (unfolded line).attributes)) × (c.attributes_len.result ≤ 6 + 6 * length line)
unfolding unfolded
measured c =
    let e = rw (c.text_in-rest.ensures.text, c.requires.0) at c.attributes_len.ensures in
    (e, omega (arith, e, attributes_short c.args.line.now))

pub texts_len-requires : goal.texts_len-requires
texts_len-requires c = (c.requires.0, c.requires.1)

pub overflow_add-result : goal.overflow_add-result
overflow_add-result c = omega (arith, c.texts_len.ensures.1, c.requires.1)

pub attributes_len-requires : goal.attributes_len-requires
attributes_len-requires c =
    let text = c.text_in-rest.ensures in
    (omega (arith, c.text_in-rest.ensures.short, c.requires.1), rw (c.text_in-rest.ensures.text, c.requires.0) c.requires.2)

pub overflow_add-result-2 : goal.overflow_add-result-2
overflow_add-result-2 c = omega (arith, (measured (goal.at.overflow_add-result-2 c).After-attributes_len).1, c.texts_len.ensures.1, c.requires.1)

pub returns : goal.returns
returns c = omega (arith, (measured (goal.at.returns c).After-attributes_len).0, c.texts_len.ensures.0, length_sheet (unfolded c.args.line.now))
