-- What the writer accepts reads back as it was, and is one line: where no reason holds to refuse it, a directive is read as one of the
-- same key and value text, and a typed value comes back from its own reader. Assumes nothing.
use Rattle.std.specs.Prelude.{Option, is_none, is_some}
use Rattle.std.specs.declared.option.Option.TheVariants as option
use Prim.Native.Nat.{ℕ, ◌≤◌, ◌<◌}
use native.Mathlib.Omega.{arith}
use mathlib.Core.Path.{◌≡◌, refl, sym, ap, ◌∙◌}
use mathlib.Core.Logic.{◌≢◌}
use mathlib.Core.Bool.{true, false, ◌&&◌, true≢false}
use mathlib.Core.List.{List, [], ◌∷◌, ◌++◌, append-nil}
use lib.Dec.{eqb}
use Rattle.std.specs.declared.option.Option.TheVariants as option
use Rattle.base_lists.specs.Bytes.{Every, Lacks, lf, cr, sp}
use Rattle.base_lists.proofs.EveryLaws.{every_append}
use Rattle.base_lists.proofs.BoolLaws.{or_left, or_right}
use Rattle.base_lists.proofs.OrderLaws.{some_number}
use Rattle.base_words.specs.Word.{is_space}
use Rattle.write_decimals.specs.Decimal.{decimal}
use Rattle.read_numbers.specs.Number.{is_digit, most32}
use Rattle.write_decimals.proofs.DecimalLaws.{decimal_lacks}
use Rattle.base_buffer.specs.Answer.{refusal_of}
use Rattle.read_kind.specs.declared.kind.Kind.TheVariants.{Directive}
use Rattle.read_kind.specs.Kind.{kind}
use Rattle.read_lines.specs.Lines.{OneLine}
use Rattle.read_kind.specs.Reading.{ReadsDirective}
use Rattle.read_kind.proofs.KindLaws.{kind_directive, directive_reads, directive_reads_alone}
use Rattle.read_version.specs.GffVersion.{version, version_of}
use Rattle.read_version.proofs.VersionLaws.{version_major, version_minor, version_patch}
use Rattle.read_directives.proofs.RegionLaws.{region_reads}
use Rattle.read_directives.proofs.BuildLaws.{build_reads}
use Rattle.write_texts.specs.Text.{breaks, unfit}
use Rattle.write_texts.proofs.TextLaws.{no_return, no_feed, fit_word}
use Rattle.write_directive.specs.declared.directive.Value.{Value}
use Rattle.write_directive.specs.declared.directive.Value.TheVariants.{None, Text, Version, Region, Build}
use Rattle.write_directive.specs.Version.{dotted, version_reasons, version_text}
use Rattle.write_directive.specs.Region.{region_reasons, region_text}
use Rattle.write_directive.specs.GenomeBuild.{build_reasons, build_text}
use Rattle.write_directive.specs.Directive.{directive_reasons, tail, directive_line}
use Rattle.write_directive.specs.Reading.{value_text, Within, Sized, Back}
use Rattle.write_directive.proofs.ReasonLaws.{clear, clear_key}

-- ── a directive ───────────────────────────────────────────────────────────────────────────────

tail_back : (key : List ℕ) (value : Value) (first second : List ℕ) → Every (λ x. is_space x ≡ false) key
    → ReadsDirective (directive_line key value first second) key (value_text value first second)
unfolding tail value_text
tail_back key None first second h = rw append-nil (directive_reads_alone key h)
tail_back key Text first second h = directive_reads key h first
tail_back key (Version v) first second h = directive_reads key h (version_text v)
tail_back key (Region start end) first second h = directive_reads key h (region_text first start end)
tail_back key Build first second h = directive_reads key h (build_text first second)

-- ── a typed value ─────────────────────────────────────────────────────────────────────────────

version_back : (major : ℕ) (minor patch : Option ℕ) → major ≤ most32 → Within minor → Within patch
    → (is_none minor && is_some patch) ≡ false
    → version_of (decimal major ++ (dotted minor ++ dotted patch)) ≡ version major minor patch
unfolding dotted
version_back major option.None option.None h g k e = rw (append-nil (decimal major)) (version_major major h)
version_back major option.None (option.Some p) h g k e = absurd (true≢false e)
version_back major (option.Some m) option.None h g k e = rw (append-nil (decimal m)) (version_minor major h m g)
version_back major (option.Some m) (option.Some p) h g k e = version_patch major h m g p k

value_back : (key : List ℕ) (value : Value) (first second : List ℕ) → Sized value
    → refusal_of (directive_reasons key value first second) ≡ option.None → Back value first second
unfolding directive_reasons version_reasons region_reasons build_reasons Sized Back version_text region_text build_text
value_back key None first second s e = tt
value_back key Text first second s e = tt
value_back key (Version v) first second s e = version_back v.major v.minor v.patch s.0 s.1 s.2 (clear _ _ e).whole
value_back key (Region start end) first second s e =
    let c = clear _ _ e in
    let w = fit_word first c.fit in
    region_reads first start end w.0 w.1 (some_number start (or_left (eqb start 0) (eqb end 0) c.some)) s.0
    (some_number end (or_right (eqb start 0) (eqb end 0) c.some)) s.1
value_back key Build first second s e =
    let c = clear _ _ e in
    let a = fit_word first (or_left (unfit first) (unfit second) c.fit) in
    let b = fit_word second (or_right (unfit first) (unfit second) c.fit) in
    build_reads first second a.0 a.1 b.0 b.1

-- ── one line ──────────────────────────────────────────────────────────────────────────────────

-- CR and LF at once: white space that no string value holds
module _ (c : ℕ) (small : c < sp) (white : is_space c ≡ true) (digit : is_digit c ≡ false)
    (broken : (s : List ℕ) → breaks s ≡ false → Lacks c s) where
  inked_lacks : (s : List ℕ) → Every (λ x. is_space x ≡ false) s → Lacks c s
  inked_lacks [] h = tt
  inked_lacks (x ∷ s) h = ((λ p. true≢false (sym white ∙ ap is_space (sym p) ∙ h.0)), inked_lacks s h.1)

  both : (a b : List ℕ) → Lacks c a → Lacks c b → Lacks c (a ++ b)
  both a b = every_append (λ x. x ≢ c) a b

  space : sp ≢ c
  space e = omega arith

  dotted_lacks : (p : Option ℕ) → Lacks c (dotted p)
  unfolding dotted
  dotted_lacks (option.Some n) = ((λ e. omega arith), decimal_lacks c n digit)
  dotted_lacks option.None = tt

  tail_lacks : (key : List ℕ) (value : Value) (first second : List ℕ) → refusal_of (directive_reasons key value first second) ≡ option.None
      → Lacks c (tail value first second)
  unfolding directive_reasons version_reasons region_reasons build_reasons tail version_text region_text build_text
  tail_lacks key None first second e = tt
  tail_lacks key Text first second e = (space, broken first (clear _ _ e).fit)
  tail_lacks key (Version v) first second e = (
    space,
    both (decimal v.major) (dotted v.minor ++ dotted v.patch) (decimal_lacks c v.major digit)
        (both (dotted v.minor) (dotted v.patch) (dotted_lacks v.minor) (dotted_lacks v.patch)),
  )
  tail_lacks key (Region start end) first second e = (
    space,
    both first (sp ∷ (decimal start ++ sp ∷ decimal end)) (inked_lacks first (fit_word first (clear _ _ e).fit).0)
        (space, both (decimal start) (sp ∷ decimal end) (decimal_lacks c start digit) (space, decimal_lacks c end digit)),
  )
  tail_lacks key Build first second e =
      let f = (clear _ _ e).fit in (
        space,
        both first (sp ∷ second) (inked_lacks first (fit_word first (or_left (unfit first) (unfit second) f)).0)
            (space, inked_lacks second (fit_word second (or_right (unfit first) (unfit second) f)).0),
      )

  line_lacks : (key : List ℕ) (value : Value) (first second : List ℕ) → refusal_of (directive_reasons key value first second) ≡ option.None
      → Lacks c (directive_line key value first second)
  line_lacks key value first second e = (
    (λ p. omega arith),
    (
      (λ p. omega arith),
      both key (tail value first second) (inked_lacks key (clear_key key value first second e).1) (tail_lacks key value first second e),
    ),
  )

-- ── the directive as a whole ──────────────────────────────────────────────────────────────────

module _ (key : List ℕ) (value : Value) (first second : List ℕ) (accepted : refusal_of (directive_reasons key value first second) ≡ option.None) where
  pub directive_kind : kind (directive_line key value first second) ≡ Directive
  directive_kind = kind_directive (key ++ tail value first second)

  pub directive_back : ReadsDirective (directive_line key value first second) key (value_text value first second)
  directive_back = tail_back key value first second (clear_key key value first second accepted).1

  pub typed_back : Sized value → Back value first second
  typed_back sized = value_back key value first second sized accepted

  pub directive_one : OneLine (directive_line key value first second)
  unfolding is_space
  directive_one = (
    line_lacks lf (omega arith) refl refl no_feed key value first second accepted,
    line_lacks cr (omega arith) refl refl no_return key value first second accepted,
    omega arith,
  )
