-- A list from a cursor on. Assumes nothing.
use Prim.Native.Nat.{ℕ, suc, ◌<◌}
use mathlib.Core.Path.{◌≡◌}
use mathlib.Core.List.{List, ◌∷◌}
use lib.ListN.{length, drop, get_or}
use lib.Seq.{drop-cons}

-- one byte at a cursor
pub cons_at : (s : List ℕ) (i j : ℕ) → i < length s → suc i ≡ j → drop i s ≡ get_or s i 0 ∷ drop j s
cons_at s i j h e = rw (← e) (drop-cons s i 0 h)
