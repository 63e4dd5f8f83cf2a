-- The line of a directive that is not refused is short: its texts are, and its numbers have at most twenty digits. Assumes nothing.
use native.Mathlib.Omega.{arith}
use lib.ListN.{length-append}
use borrow.Author.Tests.{ltb-false}
use Rattle.std.specs.Prelude.{ℕ, ◌+◌, ◌*◌, ◌≤◌, ◌≡◌, List, length, Option}
use Rattle.std.specs.declared.option.Option.TheVariants as option
use Rattle.base_lists.specs.Limits.{most_text}
use Rattle.base_lists.proofs.BoolLaws.{or_left, or_right}
use Rattle.base_buffer.specs.Answer.{refusal_of}
use Rattle.write_decimals.proofs.DecimalLaws.{length_decimal}
use Rattle.write_texts.specs.Text.{long}
use Rattle.write_directive.specs.declared.directive.Value.{Value}
use Rattle.write_directive.specs.declared.directive.Value.TheVariants.{None, Text, Version, Region, Build}
use Rattle.write_directive.specs.Version.{dotted, version_reasons, version_text}
use Rattle.write_directive.specs.Region.{region_reasons, region_text}
use Rattle.write_directive.specs.GenomeBuild.{build_reasons, build_text}
use Rattle.write_directive.specs.Directive.{directive_reasons, tail, directive_line}
use Rattle.write_directive.specs.Reading.{Within, Sized}
use Rattle.write_directive.proofs.ReasonLaws.{clear}

dotted_few : (p : Option ℕ) → Within p → length (dotted p) ≤ 21
unfolding dotted
dotted_few (option.Some n) h = omega (arith, length_decimal n (omega arith))
dotted_few option.None h = omega arith

pub line_few : (key : List ℕ) (value : Value) (first second : List ℕ) → Sized value
    → refusal_of (directive_reasons key value first second) ≡ option.None
    → length (directive_line key value first second) ≤ 66 + 3 * most_text
unfolding directive_reasons version_reasons region_reasons build_reasons Sized tail version_text region_text build_text
line_few key None first second s e = simp length-append (omega (arith, (clear _ _ e).short_key))
line_few key Text first second s e =
    let c = clear _ _ e in
    simp length-append (omega (arith, c.short_key, ltb-false _ _ c.short))
line_few key (Version v) first second s e =
    simp length-append
    (omega (arith, (clear _ _ e).short_key, length_decimal v.major (omega arith), dotted_few v.minor s.1, dotted_few v.patch s.2))
line_few key (Region start end) first second s e =
    let c = clear _ _ e in
    simp length-append
    (omega (arith, c.short_key, ltb-false _ _ c.short, length_decimal start (omega arith), length_decimal end (omega arith)))
line_few key Build first second s e =
    let c = clear _ _ e in
    simp length-append
    (omega (
      arith,
      c.short_key,
      ltb-false _ _ (or_left (long first) (long second) c.short),
      ltb-false _ _ (or_right (long first) (long second) c.short),
    ))
