-- `parse_sequence_region` answers `region_of`: a word, and twice a word and the number that it is. Assumes nothing.
use Rattle.std.proofs.Common.{arith, sym, ◌∙◌, ◌≢◌, length}
use Rattle.std.proofs.lemmas.Bool.Decides.{nat_tests}
use Rattle.std.proofs.lemmas.Result.{err_from_is_err_and}
use Rattle.read_directives.specs.SequenceRegion.{end_of, start_of}
use Rattle.read_directives.proofs.RegionLaws.{region_none, region_is}
use Rattle.read_directives.proofs.WordLaws.{word_none, word_some, number_none, number_some}
use Rattle.read_directives.proofs.sequence_region.parse_sequence_region.Goals as goal

pub returns-then-is_empty : goal.returns-then-is_empty
returns-then-is_empty c = region_none _ (grind (arith, nat_tests))

pub returns-in_err-name : goal.returns-in_err-name
returns-in_err-name c =
    let p = err_from_is_err_and c.from_residual.result c.from_residual.ensures.1 in
    let some : length c.args.text.now ≢ 0 = grind (arith, nat_tests) in
    rw (p.1, p.2, region_is) (word_none _ _ _ _ c.word.ensures c.in_err-name.was)

pub returns-in_err-first : goal.returns-in_err-first
unfolding start_of
returns-in_err-first c =
    let p = err_from_is_err_and c.from_residual-in_err-first.result c.from_residual-in_err-first.ensures.1 in
    let some : length c.args.text.now ≢ 0 = grind (arith, nat_tests) in
    rw (p.1, p.2, region_is, ← word_some _ _ _ _ c.word.ensures c.in_ok-name.was) (word_none _ _ _ _ c.word-2.ensures c.in_err-first.was)

pub returns-in_err-start : goal.returns-in_err-start
unfolding start_of
returns-in_err-start c =
    let p = err_from_is_err_and c.from_residual-in_err-start.result c.from_residual-in_err-start.ensures.1 in
    let some : length c.args.text.now ≢ 0 = grind (arith, nat_tests) in
    rw (
      p.1,
      p.2,
      region_is,
      ← word_some _ _ _ _ c.word.ensures c.in_ok-name.was,
      ← word_some _ _ _ _ c.word-2.ensures c.in_ok-first.was,
      ← c.text.ensures,
      ← c.region_position.ensures,
    )
    (number_none _ _ _ (sym c.ok_or.ensures.value ∙ c.in_err-start.was))

pub returns-in_err-second : goal.returns-in_err-second
unfolding start_of end_of
returns-in_err-second c =
    let p = err_from_is_err_and c.from_residual-in_err-second.result c.from_residual-in_err-second.ensures.1 in
    let some : length c.args.text.now ≢ 0 = grind (arith, nat_tests) in
    rw (
      p.1,
      p.2,
      region_is,
      ← word_some _ _ _ _ c.word.ensures c.in_ok-name.was,
      ← word_some _ _ _ _ c.word-2.ensures c.in_ok-first.was,
      ← c.text.ensures,
      ← c.region_position.ensures,
      ← number_some _ _ _ (sym c.ok_or.ensures.value ∙ c.in_ok-start.was),
    )
    (word_none _ _ _ _ c.word-3.ensures c.in_err-second.was)

pub returns-in_err-end : goal.returns-in_err-end
unfolding start_of end_of
returns-in_err-end c =
    let p = err_from_is_err_and c.from_residual-in_err-end.result c.from_residual-in_err-end.ensures.1 in
    let some : length c.args.text.now ≢ 0 = grind (arith, nat_tests) in
    rw (
      p.1,
      p.2,
      region_is,
      ← word_some _ _ _ _ c.word.ensures c.in_ok-name.was,
      ← word_some _ _ _ _ c.word-2.ensures c.in_ok-first.was,
      ← c.text.ensures,
      ← c.region_position.ensures,
      ← number_some _ _ _ (sym c.ok_or.ensures.value ∙ c.in_ok-start.was),
      ← word_some _ _ _ _ c.word-3.ensures c.in_ok-second.was,
      ← c.text-2.ensures,
      ← c.region_position-2.ensures,
    )
    (number_none _ _ _ (sym c.ok_or-2.ensures.value ∙ c.in_err-end.was))

pub returns : goal.returns
unfolding start_of end_of
returns c =
    let some : length c.args.text.now ≢ 0 = grind (arith, nat_tests) in
    rw (
      region_is,
      ← word_some _ _ _ _ c.word.ensures c.in_ok-name.was,
      ← word_some _ _ _ _ c.word-2.ensures c.in_ok-first.was,
      ← c.text.ensures,
      ← c.region_position.ensures,
      ← number_some _ _ _ (sym c.ok_or.ensures.value ∙ c.in_ok-start.was),
      ← word_some _ _ _ _ c.word-3.ensures c.in_ok-second.was,
      ← c.text-2.ensures,
      ← c.region_position-2.ensures,
    )
    (number_some _ _ _ (sym c.ok_or-2.ensures.value ∙ c.in_ok-end.was))
