-- `parse_genome_build` answers `build_of`: one word, and another behind it. Assumes nothing.
use Rattle.std.proofs.Common.{arith, ◌≢◌, length}
use Rattle.std.proofs.lemmas.Bool.Decides.{nat_tests}
use Rattle.std.proofs.lemmas.Result.{err_from_is_err_and}
use Rattle.read_directives.proofs.BuildLaws.{build_none, build_is}
use Rattle.read_directives.proofs.WordLaws.{word_none, word_some}
use Rattle.read_directives.proofs.genome_build.parse_genome_build.Goals as goal

pub returns-then-is_empty : goal.returns-then-is_empty
returns-then-is_empty c = build_none _ (grind (arith, nat_tests))

pub returns-in_err-source : goal.returns-in_err-source
returns-in_err-source c =
    let p = err_from_is_err_and c.from_residual.result c.from_residual.ensures.1 in
    let some : length c.args.text.now ≢ 0 = grind (arith, nat_tests) in
    rw (p.1, p.2, build_is) (word_none _ _ _ _ c.word.ensures c.in_err-source.was)

pub returns-in_err-name : goal.returns-in_err-name
returns-in_err-name c =
    let p = err_from_is_err_and c.from_residual-in_err-name.result c.from_residual-in_err-name.ensures.1 in
    let some : length c.args.text.now ≢ 0 = grind (arith, nat_tests) in
    rw (p.1, p.2, build_is, ← word_some _ _ _ _ c.word.ensures c.in_ok-source.was) (word_none _ _ _ _ c.word-2.ensures c.in_err-name.was)

pub returns : goal.returns
returns c =
    let some : length c.args.text.now ≢ 0 = grind (arith, nat_tests) in
    rw (build_is, ← word_some _ _ _ _ c.word.ensures c.in_ok-source.was) (word_some _ _ _ _ c.word-2.ensures c.in_ok-name.was)
