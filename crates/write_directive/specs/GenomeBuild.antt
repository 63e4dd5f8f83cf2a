-- The value of `genome-build` as it is written, GFF3, Directives; RULES 7.4: source, name. Assumes nothing: these are definitions.
use Rattle.std.specs.Prelude.{ℕ, false, not, ◌||◌, List, ◌∷◌, ◌++◌}
use Rattle.base_lists.specs.Bytes.{ascii, sp}
use Rattle.base_words.specs.Same.{same}
use Rattle.base_buffer.specs.Answer.{Reason}
use Rattle.write_texts.specs.Text.{long, unfit}
use Rattle.write_directive.specs.Judge.{reasons}

abbrev pub build_key : List ℕ
build_key = ascii "genome-build"

unfoldable pub build_reasons : List ℕ → List ℕ → List ℕ → List Reason
build_reasons key source name =
    reasons key
    (record {
      long = long source || long name;
      foreign = not (same key build_key);
      unfit = unfit source || unfit name;
      minorless = false;
      zero = false;
    })

-- the value
unfoldable pub build_text : List ℕ → List ℕ → List ℕ
build_text source name = source ++ sp ∷ name

-- and the space before it
abbrev pub build_tail : List ℕ → List ℕ → List ℕ
build_tail source name = sp ∷ build_text source name
