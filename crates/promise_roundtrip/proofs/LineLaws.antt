-- The line of an accepted record, by any coders of its texts: no column holds a tab, the line holds no LF and no CR, it is a record by its
-- first byte, and it is short enough to unfold. Assumes nothing.
use Prim.Native.Nat.{ℕ, suc, ◌+◌, ◌*◌, ◌≤◌, ◌<◌}
use native.Mathlib.Omega.{arith}
use mathlib.Core.Path.{◌≡◌, refl, sym}
use mathlib.Core.Logic.{◌≢◌}
use mathlib.Core.Bool.{Bool, true, false, cond}
use mathlib.Core.List.{List, [], ◌∷◌, ◌++◌, map, flat_map}
use Rattle.std.specs.Prelude.{Some}
use lib.Dec.{eqb}
use lib.ListN.{length, get_or, length-append}
use Rattle.base_lists.specs.Bytes.{Every, Bytes, Lacks, tab, lf, cr, hash, comma, dot, semicolon, equals}
use Rattle.base_lists.specs.Limits.{most_text}
use Rattle.base_lists.proofs.EveryLaws.{every_append, every_each}
use Rattle.read_numbers.specs.Number.{is_digit, most64}
use Rattle.write_decimals.proofs.DecimalLaws.{decimal_lacks, length_decimal}
use Rattle.percent_coder.specs.Coder.{Coder}
use Rattle.percent_sets.specs.declared.Set.{Set}
use Rattle.percent_sets.specs.declared.Set.TheVariants.{Name, Column, Attribute}
use Rattle.percent_sets.specs.Bars.{bars}
use Rattle.percent_sets.proofs.SetLaws.{bars_control, bars_hash}
use Rattle.read_kind.specs.declared.kind.Kind.TheVariants.{Record}
use Rattle.read_kind.specs.Kind.{kind}
use Rattle.read_lines.specs.Lines.{OneLine}
use Rattle.read_kind.proofs.KindLaws.{kind_record}
use Rattle.read_attributes.specs.Attributes as attributes
use Rattle.read_values.specs.Pieces.{prefixed, joined}
use Rattle.read_attributes.specs.Written.{Writable, written, column}
use Rattle.read_attributes.proofs.WrittenLaws.{column_lacks}
use Rattle.read_tokens.specs.Tokens.{strand_byte, phase_byte}
use Rattle.read_score.proofs.ScoreLaws.{is_score_byte}
use Rattle.read_columns.specs.Columns.{row_of}
use Rattle.sheet_form.specs.Sheet.{section_of, attribute_of}
use Rattle.sheet_form.proofs.SheetLaws.{Text, GoodAttribute}
use Rattle.sheet_form.proofs.LengthLaws.{length_section, length_attribute, length_sheet}
use Rattle.write_measure.specs.Record.{columns, sheet_line}
use Rattle.promise_roundtrip.proofs.AcceptedLaws.{AcceptedRecord, length_score, score_column_lacks}

-- ── what holds of each ────────────────────────────────────────────────────────────────────────

-- a good attribute can be written
pub writable : (l : List attributes.Attribute) → Every GoodAttribute l → Every Writable l
writable =
    every_each GoodAttribute Writable
    (λ a g. record {
      tag_bytes = g.good_tag.1;
      value_bytes = every_each Text Bytes (λ v t. t.1) a.values g.good_values.0.1;
      a_value = g.good_values.1;
    })

-- a row's bytes are those of its columns, of the rest, and tabs
every_row : (P : ℕ → Type 0) → P tab → (row : List (List ℕ)) (rest : List ℕ) → Every (Every P) row → Every P rest
    → Every P (row_of row rest)
every_row P sep [] rest h k = k
every_row P sep (c ∷ row) rest h k = every_append P c (tab ∷ row_of row rest) h.0 (sep, every_row P sep row rest h.1 k)

-- the bytes of strands and phases are no control characters
least : (t : Bool) (k a b : ℕ) → k ≤ a → k ≤ b → k ≤ cond t a b
least true k a b h g = h
least false k a b h g = g

strand_large : (n : ℕ) → 32 ≤ strand_byte n
strand_large n =
    least (eqb n 0) 32 46 _ (omega arith) (least (eqb n 1) 32 43 _ (omega arith) (least (eqb n 2) 32 45 63 (omega arith) (omega arith)))

phase_large : (n : ℕ) → 32 ≤ phase_byte n
phase_large n =
    least (eqb n 0) 32 48 _ (omega arith) (least (eqb n 1) 32 49 _ (omega arith) (least (eqb n 2) 32 50 46 (omega arith) (omega arith)))

-- a row whose first column lacks `#` does not begin with it; where that column is empty, it begins with a tab
begins : (c s : List ℕ) → Lacks hash c → get_or (c ++ tab ∷ s) 0 0 ≢ hash
begins [] s h = λ p. omega arith
begins (x ∷ c) s h = h.0

-- ── how long what is written is ───────────────────────────────────────────────────────────────

-- things that are written with a separator between them take at most three times what they take on the sheet, if each does so with a
-- separator of its own
module _ {A : Type 0} (w v : A → List ℕ) (c : ℕ) (few : (a : A) → suc (length (w a)) ≤ 3 * length (v a)) where
  length_prefixed : (l : List A) → length (prefixed c (map w l)) ≤ 3 * length (flat_map v l)
  unfolding prefixed flat_map
  length_prefixed [] = omega arith
  length_prefixed (a ∷ l) = simp length-append (omega (arith, few a, length_prefixed l))

  length_joined : (l : List A) → length (joined c (map w l)) ≤ 3 * length (flat_map v l)
  unfolding joined flat_map
  length_joined [] = omega arith
  length_joined (a ∷ l) = simp length-append (omega (arith, few a, length_prefixed l))

module _ {bars : ℕ → Bool} {encode : List ℕ → List ℕ} (coder : Coder bars encode) where
  length_written : (a : attributes.Attribute) → suc (length (written encode a)) ≤ 3 * length (attribute_of a)
  unfolding written
  length_written a =
      let value : (v : List ℕ)
      → suc (length (encode v)) ≤ 3 * length (section_of v) = λ v. simp length_section (omega (arith, coder.few v)) in
      simp (length-append, length_attribute) (omega (arith, coder.few a.tag, length_joined encode section_of comma value a.values))

  length_column : (l : List attributes.Attribute) → length (column encode l) ≤ suc (3 * length (flat_map attribute_of l))
  unfolding column
  length_column [] = omega arith
  length_column (a ∷ l) = omega (arith, length_joined (written encode) attribute_of semicolon length_written (a ∷ l))

-- ── the line ──────────────────────────────────────────────────────────────────────────────────

-- the coders of the three sets
module _ {encode : Set → List ℕ → List ℕ} (coder : (set : Set) → Coder (bars set) (encode set))
    {text : List ℕ} {start end strand phase : ℕ} (a : AcceptedRecord text start end strand phase) where
  -- a control character: tab, LF and CR are such
  module _ (c : ℕ) (small : c < 32) (digit : is_digit c ≡ false) (part : is_score_byte c ≡ false) where
    columns_lack : Every (Lacks c) (columns encode a.sheet start end strand phase)
    unfolding columns
    columns_lack =
        let s = a.sheet in
        let g = a.good in
        let name = (coder Name).lacks c (bars_control Name c small) s.name g.good_name.1 in
        let source = (coder Column).lacks c (bars_control Column c small) s.source g.good_source.1 in
        let type = (coder Column).lacks c (bars_control Column c small) s.type g.good_type.1 in
        let score = score_column_lacks c part (λ p. omega arith) s.score a.fit_score in
        let strand_other : strand_byte strand ≢ c = λ p. omega (arith, strand_large strand) in
        let phase_other : phase_byte phase ≢ c = λ p. omega (arith, phase_large phase) in
        (name, (source, (type, (decimal_lacks c start digit, (decimal_lacks c end digit, (score, ((strand_other, tt), ((phase_other, tt), tt))))))))

    line_lacks : c ≢ tab → Lacks c (sheet_line encode (Some a.sheet) start end strand phase)
    line_lacks other =
        let l = a.sheet.attributes in
        let signs : Lacks c (comma ∷ dot ∷ semicolon ∷ equals ∷ []) = ((λ p. omega arith), ((λ p. omega arith), ((λ p. omega arith), ((λ p. omega arith), tt)))) in
        every_row (λ x. x ≢ c) (λ p. other (sym p)) (columns encode a.sheet start end strand phase)
        (column (encode Attribute) l) columns_lack
        (column_lacks (coder Attribute) c (bars_control Attribute c small) signs l (writable l a.good.good_attributes.1))

  -- no column holds a tab
  pub columns_no_tab : Every (Lacks tab) (columns encode a.sheet start end strand phase)
  columns_no_tab = columns_lack tab (omega arith) refl refl

  pub line_one : OneLine (sheet_line encode (Some a.sheet) start end strand phase)
  unfolding columns
  line_one = (
    line_lacks lf (omega arith) refl refl (omega arith),
    line_lacks cr (omega arith) refl refl (omega arith),
    simp length-append (omega arith),
  )

  pub line_kind : kind (sheet_line encode (Some a.sheet) start end strand phase) ≡ Record
  unfolding columns
  line_kind =
      kind_record _ (begins (encode Name a.sheet.name) _
      ((coder Name).lacks hash bars_hash.0 a.sheet.name a.good.good_name.1))

  -- three times the sheet without its five counts, forty digits, eight tabs, strand, phase, and a `.` for each of score and attributes
  pub line_short : start ≤ most64 → end ≤ most64 → length (sheet_line encode (Some a.sheet) start end strand phase) ≤ 3145720
  unfolding columns
  line_short low high =
      let s = a.sheet in
      let total : 20 + length s.name + length s.source + length s.type + length s.score + length (flat_map attribute_of
      s.attributes) ≤ most_text = rw (← length_sheet s, ← a.whole) a.short in
      simp length-append
      (omega (
        arith,
        (coder Name).few s.name,
        (coder Column).few s.source,
        (coder Column).few s.type,
        length_decimal start (omega arith),
        length_decimal end (omega arith),
        length_score s.score,
        length_column (coder Attribute) s.attributes,
      ))
