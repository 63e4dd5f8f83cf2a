-- Laws of regions, and what a region of a given name, start and end reads back as. Assumes nothing.
use Rattle.std.specs.Prelude.{Ok, Err}
use Prim.Native.Nat.{ℕ, ◌+◌, ◌≤◌, ◌<◌}
use native.Mathlib.Omega.{arith}
use mathlib.Core.Path.{◌≡◌, refl, sym}
use mathlib.Core.Logic.{◌≢◌}
use mathlib.Core.Bool.{false}
use mathlib.Core.List.{List, [], ◌∷◌, ◌++◌, append_assoc}
use lib.ListN.{length, length-append}
use Rattle.base_lists.specs.Bytes.{Every, sp}
use Rattle.base_refusals.specs.declared.Refusal.TheVariants as refusal
use Rattle.base_scan.specs.Find.{index}
use Rattle.base_scan.specs.Part.{text_at}
use Rattle.base_words.specs.Word.{is_space}
use Rattle.write_decimals.specs.Decimal.{decimal}
use Rattle.read_numbers.specs.Number.{most64}
use Rattle.write_decimals.proofs.DecimalLaws.{decimal_some, region_position_decimal}
use Rattle.read_directives.specs.SequenceRegion.{end_of, start_of, region_of}
use Rattle.read_directives.specs.Then.{word_then}
use Rattle.read_directives.proofs.WordLaws.{next_then, word_first, word_behind, word_last, decimal_inked}

pub region_none : (s : List ℕ) → length s ≡ 0 → Err refusal.Empty ≡ region_of s
unfolding region_of
region_none [] e = refl
region_none (x ∷ s) e = absurd (omega arith)

pub region_is : (s : List ℕ) → length s ≢ 0 → region_of s ≡ word_then (Err refusal.RegionNameMissing) s 0 (start_of s)
unfolding region_of
region_is [] h = absurd (h refl)
region_is (x ∷ s) h = refl

-- ── read back ─────────────────────────────────────────────────────────────────────────────────

pub region_reads : (name : List ℕ) (start end : ℕ) → Every (λ x. is_space x ≡ false) name → 0 < length name
    → 1 ≤ start → start ≤ most64 → 1 ≤ end → end ≤ most64
    → (region_of (name ++ sp ∷ (decimal start ++ sp ∷ decimal end)) ≡ Ok (record { name = record { start = 0; end = length name }; start = start; end = end }))
    × (text_at (record { start = 0; end = length name }) (name ++ sp ∷ (decimal start ++ sp ∷ decimal end)) ≡ name)
unfolding start_of end_of index is_space
region_reads name start end inked some h g k l =
    let n = word_first name inked some (sp ∷ (decimal start ++ sp ∷ decimal end)) refl in
    let b = word_behind (decimal start) (decimal_inked start) (decimal_some start) name (length name) refl (sp ∷ decimal end) refl in
    let m : length name + 1 + length (decimal start) ≡ length (name ++ sp ∷ decimal start) = simp length-append (omega arith) in
    let e = rw append_assoc at (word_last (decimal end) (decimal_inked end) (decimal_some end) (name ++ sp ∷ decimal start) _ m) in
    let long : length (name ++ sp ∷ (decimal start ++ sp ∷ decimal end)) ≢ 0 = λ z. n.some (sym z) in (
      rw region_is (sym (next_then _ _ n
          (next_then _ _ b (rw (b.reads, region_position_decimal start h g)
          (next_then _ _ e (rw (e.reads, region_position_decimal end k l))))))),
      n.reads,
    )
