-- A text by windows that follow each other. Assumes nothing.
use Prim.Native.Nat.{ℕ, zero, suc, ◌+◌, ◌*◌, ◌<◌}
use native.Mathlib.Omega.{arith}
use mathlib.Core.Path.{◌≡◌, refl, ap, ◌∙◌}
use mathlib.Core.Bool.{Bool}
use mathlib.Core.List.{List, []}
use lib.ListN.{take, drop, get_or}
use Rattle.std.specs.Simd.{first_chunks}
use Rattle.std.proofs.lemmas.List.{drop-drop}
use Rattle.percent_coding.specs.Percent.{count_escaped}
use Rattle.percent_encode.proofs.PlainLaws.{count_cut}

-- the window from i on, where i is told in two ways
from : (n : ℕ) (s : List ℕ) (i j : ℕ) → i ≡ j → take n (drop i s) ≡ take n (drop j s)
from n s i j e = rw e refl

-- the window of n elements at i, of the first k
pub window_at : (n k : ℕ) (s : List ℕ) (i : ℕ) → i < k → get_or (first_chunks n k s) i [] ≡ take n (drop (i * n) s)
window_at n zero s i h = absurd (omega (arith, h))
window_at n (suc k) s zero h = from n s 0 (0 * n) (omega arith)
window_at n (suc k) s (suc i) h =
    window_at n k (drop n s) i (omega (arith, h))
    ∙ ap (take n) (drop-drop (i * n) n s)
    ∙ from n s (n + i * n) (suc i * n) (omega arith)

-- what is escaped from a window on: in it, and behind it
pub count_on : (set : ℕ → Bool) (i n : ℕ) (s : List ℕ)
    → count_escaped set (drop i s) ≡ count_escaped set (take n (drop i s)) + count_escaped set (drop (i + n) s)
count_on set i n s = rw (drop-drop n i s) at (count_cut set n (drop i s))
