-- `attribute_len`: its tag and its values. Assumes nothing.
use native.Mathlib.Omega.{arith}
use Rattle.read_judge.proofs.AttributesLaws.{length_parts, length_plain}
use Rattle.read_judge.proofs.judging.attribute_len.Goals as goal

pub overflow_add-result : goal.overflow_add-result
overflow_add-result c = omega (arith, c.requires.0, c.requires.1)

pub overflow_add-result-then-plain : goal.overflow_add-result-then-plain
overflow_add-result-then-plain c = omega (arith, c.requires.0, c.requires.1)

pub returns-then-plain : goal.returns-then-plain
returns-then-plain c =
    let plain = c.requires.2 c.if-plain.true in
    (omega (arith, length_plain c.args.tag.now c.args.value.now plain.0 plain.1), omega arith)

pub returns : goal.returns
returns c = let a = c.args in (omega (arith, length_parts a.tag.now a.value.now), omega arith)
