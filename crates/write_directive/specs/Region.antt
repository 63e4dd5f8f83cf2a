-- The value of `sequence-region` as it is written, GFF3, Directives; RULES 7.3: name, start, end. Assumes nothing: these are definitions.
use Rattle.std.specs.Prelude.{ℕ, false, not, ◌||◌, List, ◌∷◌, ◌++◌, eqb}
use Rattle.base_lists.specs.Bytes.{ascii, sp}
use Rattle.base_words.specs.Same.{same}
use Rattle.base_buffer.specs.Answer.{Reason}
use Rattle.write_decimals.specs.Decimal.{decimal}
use Rattle.write_texts.specs.Text.{long, unfit}
use Rattle.write_directive.specs.Judge.{reasons}

abbrev pub region_key : List ℕ
region_key = ascii "sequence-region"

unfoldable pub region_reasons : List ℕ → List ℕ → ℕ → ℕ → List Reason
region_reasons key name start end =
    reasons key
    (record {
      long = long name;
      foreign = not (same key region_key);
      unfit = unfit name;
      minorless = false;
      zero = eqb start 0 || eqb end 0;
    })

-- the value
unfoldable pub region_text : List ℕ → ℕ → ℕ → List ℕ
region_text name start end = name ++ sp ∷ (decimal start ++ sp ∷ decimal end)

-- and the space before it
abbrev pub region_tail : List ℕ → ℕ → ℕ → List ℕ
region_tail name start end = sp ∷ region_text name start end
