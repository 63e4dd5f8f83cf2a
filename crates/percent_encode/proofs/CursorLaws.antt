-- Encoding from a cursor on. Assumes nothing.
use Prim.Native.Nat.{ℕ, ◌+◌, ◌≤◌, ◌<◌}
use native.Mathlib.Omega.{arith}
use mathlib.Core.Path.{◌≡◌}
use mathlib.Core.Bool.{Bool, cond}
use mathlib.Core.List.{List, [], ◌++◌}
use lib.ListN.{length, drop, get_or, drop_of_length-le}
use Rattle.base_lists.proofs.CursorLaws.{cons_at}
use Rattle.percent_coding.specs.Percent.{piece, encoded, count_escaped}

module _ (set : ℕ → Bool) (s : List ℕ) (i : ℕ) where
  pub encoded_next : i < length s → encoded set (drop i s) ≡ piece set (get_or s i 0) ++ encoded set (drop (i + 1) s)
  unfolding encoded
  encoded_next h = rw (cons_at s i (i + 1) h (omega arith))

  pub encoded_end : length s ≤ i → encoded set (drop i s) ≡ []
  unfolding encoded
  encoded_end h = rw (drop_of_length-le s h)

  pub count_next : i < length s → count_escaped set (drop i s) ≡ cond (set (get_or s i 0)) 1 0 + count_escaped set (drop (i + 1) s)
  unfolding count_escaped
  count_next h = rw (cons_at s i (i + 1) h (omega arith))

  pub count_end : length s ≤ i → count_escaped set (drop i s) ≡ 0
  unfolding count_escaped
  count_end h = rw (drop_of_length-le s h)
