-- One step of decoding. Assumes nothing: these are definitions.
use Rattle.std.specs.Prelude.{ℕ, ◌<◌, ◌≤◌, ◌≡◌, cond, List, ◌∷◌, ltb, length, drop}
use Rattle.percent_coding.specs.Percent.{is_hex, hex_value, decoded}

-- r is the value of the hex digit x, and 16 of any other byte
pub record Hex (x r : ℕ) : Type 0 where
  pub digit : ltb r 16 ≡ is_hex x
  pub value : r ≡ cond (is_hex x) (hex_value x) 16

-- `byte` is the decoded byte that begins at i, and the next one begins at `next`
pub record Decodes (s : List ℕ) (i byte next : ℕ) : Type 0 where
  pub first : decoded (drop i s) ≡ byte ∷ decoded (drop next s)
  pub further : i < next
  pub inside : next ≤ length s
