-- `parse_gff_version` answers `version_of`, part by part. Assumes nothing.
use Rattle.std.proofs.Common.{arith, ◌+◌, ◌≢◌, length}
use Rattle.std.proofs.lemmas.Bool.Decides.{nat_tests}
use Rattle.std.proofs.lemmas.Result.{err_from_is_err_and}
use Rattle.read_version.proofs.VersionLaws.{version_none, version_is, minor_is, part_invalid, part_last, part_more, patch_invalid, patch_read}
use Rattle.read_version.proofs.parse_gff_version.Goals as goal

pub returns-then-is_empty : goal.returns-then-is_empty
returns-then-is_empty c = version_none _ (grind (arith, nat_tests))

pub returns-in_err-major : goal.returns-in_err-major
returns-in_err-major c =
    let p = err_from_is_err_and c.from_residual.result c.from_residual.ensures.1 in
    let some : length c.args.text.now ≢ 0 = grind (arith, nat_tests) in
    rw (p.1, p.2, version_is) (part_invalid _ _ _ 0 _ c.find-first.ensures.first c.part.ensures c.in_err-major.was)

pub returns-then-first-text : goal.returns-then-first-text
returns-then-first-text c =
    let some : length c.args.text.now ≢ 0 = grind (arith, nat_tests) in
    rw version_is (part_last _ _ _ 0 _ c.find-first.ensures.first c.part.ensures c.in_ok-major.was c.if-first-text.true)

pub returns-in_err-part : goal.returns-in_err-part
returns-in_err-part c =
    let p = err_from_is_err_and c.from_residual-in_err-part.result c.from_residual-in_err-part.ensures.1 in
    let some : length c.args.text.now ≢ 0 = grind (arith, nat_tests) in
    rw (p.1, p.2, version_is, ← part_more _ _ _ 0 _ c.find-first.ensures.first c.part.ensures c.in_ok-major.was c.if-first-text.false, minor_is)
    (part_invalid _ _ _ _ _ c.find-second.ensures.first c.part-2.ensures c.in_err-part.was)

pub returns-then-second-text : goal.returns-then-second-text
returns-then-second-text c =
    let some : length c.args.text.now ≢ 0 = grind (arith, nat_tests) in
    rw (version_is, ← part_more _ _ _ 0 _ c.find-first.ensures.first c.part.ensures c.in_ok-major.was c.if-first-text.false, minor_is)
    (part_last _ _ _ _ _ c.find-second.ensures.first c.part-2.ensures c.in_ok-part.was c.if-second-text.true)

pub returns-in_err-part-2 : goal.returns-in_err-part-2
returns-in_err-part-2 c =
    let p = err_from_is_err_and c.from_residual-in_err-part-2.result c.from_residual-in_err-part-2.ensures.1 in
    let some : length c.args.text.now ≢ 0 = grind (arith, nat_tests) in
    rw (
      p.1,
      p.2,
      version_is,
      ← part_more _ _ _ 0 _ c.find-first.ensures.first c.part.ensures c.in_ok-major.was c.if-first-text.false,
      minor_is,
      ← part_more _ _ _ _ _ c.find-second.ensures.first c.part-2.ensures c.in_ok-part.was c.if-second-text.false,
    )
    (patch_invalid _ _ (c.find-second.result + 1) c.args.text.now c.part-3.ensures c.in_err-part-2.was)

pub returns : goal.returns
returns c =
    let some : length c.args.text.now ≢ 0 = grind (arith, nat_tests) in
    rw (
      version_is,
      ← part_more _ _ _ 0 _ c.find-first.ensures.first c.part.ensures c.in_ok-major.was c.if-first-text.false,
      minor_is,
      ← part_more _ _ _ _ _ c.find-second.ensures.first c.part-2.ensures c.in_ok-part.was c.if-second-text.false,
    )
    (patch_read _ _ (c.find-second.result + 1) c.args.text.now c.part-3.ensures c.in_ok-part-2.was)
