-- Laws of builds, and what a build of a given source and name reads back as. Assumes nothing.
use Rattle.std.specs.Prelude.{Ok, Err}
use Prim.Native.Nat.{ℕ, ◌+◌, ◌<◌}
use native.Mathlib.Omega.{arith}
use mathlib.Core.Path.{◌≡◌, refl, sym}
use mathlib.Core.Logic.{◌≢◌}
use mathlib.Core.Bool.{false}
use mathlib.Core.List.{List, [], ◌∷◌, ◌++◌}
use lib.ListN.{length}
use Rattle.base_lists.specs.Bytes.{Every, sp}
use Rattle.base_refusals.specs.declared.Refusal.TheVariants as refusal
use Rattle.base_scan.specs.Find.{index}
use Rattle.base_scan.specs.Part.{text_at}
use Rattle.base_words.specs.Word.{is_space}
use Rattle.read_directives.specs.GenomeBuild.{build_of}
use Rattle.read_directives.specs.Then.{word_then}
use Rattle.read_directives.proofs.WordLaws.{next_then, word_first, word_last}

pub build_none : (s : List ℕ) → length s ≡ 0 → Err refusal.Empty ≡ build_of s
unfolding build_of
build_none [] e = refl
build_none (x ∷ s) e = absurd (omega arith)

pub build_is : (s : List ℕ) → length s ≢ 0
    → build_of s ≡ word_then (Err refusal.BuildSourceMissing) s 0 (λ source. word_then (Err refusal.BuildNameMissing) s source.end
    (λ name. Ok (record { source = source; name = name })))
unfolding build_of
build_is [] h = absurd (h refl)
build_is (x ∷ s) h = refl

-- ── read back ─────────────────────────────────────────────────────────────────────────────────

pub build_reads : (source name : List ℕ) → Every (λ x. is_space x ≡ false) source → 0 < length source
    → Every (λ x. is_space x ≡ false) name → 0 < length name
    → (build_of (source ++ sp ∷ name) ≡ Ok (record { source = record { start = 0; end = length source }; name = record { start = length source + 1; end = length source + 1 + length name } }))
    × (text_at (record { start = 0; end = length source }) (source ++ sp ∷ name) ≡ source)
    × (text_at (record { start = length source + 1; end = length source + 1 + length name }) (source ++ sp ∷ name) ≡ name)
unfolding index is_space
build_reads source name inked some inked' some' =
    let s = word_first source inked some (sp ∷ name) refl in
    let n = word_last name inked' some' source (length source) refl in
    let long : length (source ++ sp ∷ name) ≢ 0 = λ z. s.some (sym z) in
    (rw build_is (sym (next_then _ _ s (next_then _ _ n refl))), s.reads, n.reads)
