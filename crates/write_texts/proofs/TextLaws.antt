-- Laws of what is asked of texts. Assumes nothing.
use Prim.Native.Nat.{ℕ, zero, suc, ◌<◌}
use native.Mathlib.Omega.{arith}
use mathlib.Core.Path.{◌≡◌, refl, ◌∙◌}
use mathlib.Core.Logic.{⊎_elim}
use mathlib.Core.Bool.{Bool, true, false, cond, ◌||◌}
use mathlib.Core.List.{List, [], ◌∷◌}
use lib.Dec.{eqb, ltb}
use lib.ListN.{length}
use borrow.Author.Tests.{lt-ltb, le-ltb, eqb-false}
use Rattle.base_lists.specs.Bytes.{Every, Lacks, lf, cr}
use Rattle.base_lists.proofs.BoolLaws.{or_left, or_right}
use Rattle.base_lists.proofs.OrderLaws.{le_or_lt}
use Rattle.base_scan.specs.Find.{index, seek, is}
use Rattle.base_words.specs.Word.{is_space}
use Rattle.write_texts.specs.Text.{holds, breaks, unfit}

ltb_suc : (a b : ℕ) → ltb (suc a) (suc b) ≡ ltb a b
ltb_suc a b =
    ⊎_elim (λ h. rw (le-ltb a b h) (le-ltb (suc a) (suc b) (omega arith))) (λ h. rw (lt-ltb a b h) (lt-ltb (suc a) (suc b) (omega arith)))
    (le_or_lt b a)

-- a search that ends before the end
pub holds_seek : (test : ℕ → Bool) (s : List ℕ) → ltb (seek test 0 s) (length s) ≡ holds test s
unfolding seek index holds
holds_seek test [] = refl
holds_seek test (x ∷ s) = go (test x) (holds_seek test s)
  where
    go : (t : Bool) → ltb (index test s) (length s) ≡ holds test s
        → ltb (cond t zero (suc (index test s))) (suc (length s)) ≡ (t || holds test s)
    go true e = lt-ltb 0 (suc (length s)) (omega arith)
    go false e = ltb_suc (index test s) (length s) ∙ e

-- where none passes, each fails
pub holds_none : (test : ℕ → Bool) (s : List ℕ) → holds test s ≡ false → Every (λ x. test x ≡ false) s
unfolding holds
holds_none test [] e = tt
holds_none test (x ∷ s) e = (or_left (test x) (holds test s) e, holds_none test s (or_right (test x) (holds test s) e))

-- so a byte that is not held is lacking
pub holds_lacks : (c : ℕ) (s : List ℕ) → holds (is c) s ≡ false → Lacks c s
unfolding holds
holds_lacks c [] e = tt
holds_lacks c (x ∷ s) e = (eqb-false x c (or_left (eqb x c) (holds (is c) s) e), holds_lacks c s (or_right (eqb x c) (holds (is c) s) e))

-- what does not break has neither a carriage return
pub no_return : (s : List ℕ) → breaks s ≡ false → Lacks cr s
no_return s e = holds_lacks cr s (or_left (holds (is cr) s) (holds (is lf) s) e)

-- nor a line feed
pub no_feed : (s : List ℕ) → breaks s ≡ false → Lacks lf s
no_feed s e = holds_lacks lf s (or_right (holds (is cr) s) (holds (is lf) s) e)

-- a word: white space nowhere, and a byte
pub fit_word : (s : List ℕ) → unfit s ≡ false → Every (λ x. is_space x ≡ false) s × (0 < length s)
fit_word s e =
    let n = eqb-false (length s) 0 (or_left (eqb (length s) 0) (holds is_space s) e) in
    (holds_none is_space s (or_right (eqb (length s) 0) (holds is_space s) e), omega arith)
