-- `encoded_len`: the text's length and two for each byte that is escaped, where that is a number. Assumes nothing.
use native.Mathlib.Omega.{arith}
use Rattle.percent_sets.specs.Sets.{escapes}
use Rattle.percent_coding.proofs.PercentLaws.{length_encoded}
use Rattle.percent_encode.proofs.encoded_len.Goals as goal

pub returns-then-s-escaped : goal.returns-then-s-escaped
returns-then-s-escaped c =
    let a = c.args in
    let e = length_encoded (escapes a.set) a.s.now in
    (omega arith, omega arith)

pub returns : goal.returns
returns c =
    let a = c.args in
    let e = length_encoded (escapes a.set) a.s.now in
    (omega arith, omega arith)
