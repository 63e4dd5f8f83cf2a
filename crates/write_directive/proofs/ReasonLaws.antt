-- What is known of a directive where no reason holds to refuse it. Assumes nothing.
use Prim.Native.Nat.{ℕ, ◌≤◌}
use mathlib.Core.Path.{◌≡◌}
use mathlib.Core.Bool.{false, ◌||◌}
use mathlib.Core.List.{List}
use lib.ListN.{length}
use Rattle.std.specs.declared.option.Option.TheVariants as option
use borrow.Author.Tests.{ltb-false}
use Rattle.base_lists.specs.Bytes.{Every}
use Rattle.base_lists.specs.Limits.{most_text}
use Rattle.base_lists.proofs.BoolLaws.{or_left, or_right}
use Rattle.base_words.specs.Word.{is_space}
use Rattle.base_buffer.specs.Answer.{refusal_of}
use Rattle.base_buffer.proofs.AnswerLaws.{none_holds}
use Rattle.write_texts.specs.Text.{holds, long}
use Rattle.write_texts.proofs.TextLaws.{holds_none}
use Rattle.write_directive.specs.declared.directive.Value.{Value}
use Rattle.write_directive.specs.declared.directive.Value.TheVariants.{None, Text, Version, Region, Build}
use Rattle.write_directive.specs.declared.judge.Faults.{Faults}
use Rattle.write_directive.specs.Judge.{reasons}
use Rattle.write_directive.specs.Version.{version_reasons}
use Rattle.write_directive.specs.Region.{region_reasons}
use Rattle.write_directive.specs.GenomeBuild.{build_reasons}
use Rattle.write_directive.specs.Directive.{directive_reasons}

-- where none holds: of the key, and of the faults of the value
pub record Clear (key : List ℕ) (faults : Faults) : Type 0 where
  pub short_key : length key ≤ most_text
  pub inked_key : holds is_space key ≡ false
  pub short : faults.long ≡ false
  pub own : faults.foreign ≡ false
  pub fit : faults.unfit ≡ false
  pub whole : faults.minorless ≡ false
  pub some : faults.zero ≡ false

pub clear : (key : List ℕ) (faults : Faults) → refusal_of (reasons key faults) ≡ option.None → Clear key faults
unfolding reasons
clear key faults e =
    let a = none_holds (long key || faults.long) _ _ e in
    let b = none_holds faults.foreign _ _ a.1 in
    let c = none_holds (holds is_space key) _ _ b.1 in
    let d = none_holds faults.unfit _ _ c.1 in
    let f = none_holds faults.minorless _ _ d.1 in
    let g = none_holds faults.zero _ _ f.1 in
    record {
      short_key = ltb-false _ _ (or_left (long key) faults.long a.0);
      inked_key = c.0;
      short = or_right (long key) faults.long a.0;
      own = b.0;
      fit = d.0;
      whole = f.0;
      some = g.0;
    }

-- so the key is short and has no white space
pub clear_key : (key : List ℕ) (value : Value) (first second : List ℕ) → refusal_of (directive_reasons key value first second) ≡ option.None
    → (length key ≤ most_text) × Every (λ x. is_space x ≡ false) key
unfolding directive_reasons version_reasons region_reasons build_reasons
clear_key key value first second = by value
  where
    of : {faults : Faults} → Clear key faults → (length key ≤ most_text) × Every (λ x. is_space x ≡ false) key
    of c = (c.short_key, holds_none is_space key c.inked_key)

    by : (v : Value) → refusal_of (directive_reasons key v first second) ≡ option.None
        → (length key ≤ most_text) × Every (λ x. is_space x ≡ false) key
    by None e = of (clear _ _ e)
    by Text e = of (clear _ _ e)
    by (Version v) e = of (clear _ _ e)
    by (Region start end) e = of (clear _ _ e)
    by Build e = of (clear _ _ e)
