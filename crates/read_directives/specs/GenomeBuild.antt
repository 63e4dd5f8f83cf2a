-- The value of `genome-build`, GFF3, Directives; RULES 7.4: words between ASCII white space, source, name; extra words are ignored.
-- Refusals, from left to right: 6, the text is empty; 15, source missing; 16, name missing. Assumes nothing: these are definitions.
use Rattle.std.specs.Prelude.{ℕ, List, [], ◌∷◌, Result, Ok, Err}
use Rattle.base_refusals.specs.declared.Refusal.{Refusal}
use Rattle.base_refusals.specs.declared.Refusal.TheVariants as refusal
use Rattle.read_directives.specs.declared.genome_build.GenomeBuild.{GenomeBuild}
use Rattle.read_directives.specs.Then.{word_then}

unfoldable pub build_of : List ℕ → Result GenomeBuild Refusal
build_of [] = Err refusal.Empty
build_of (x ∷ s) =
    word_then (Err refusal.BuildSourceMissing) (x ∷ s) 0 (λ source. word_then (Err refusal.BuildNameMissing) (x ∷ s) source.end (λ name. Ok (record {
      source =
          source;
      name = name;
    })))
