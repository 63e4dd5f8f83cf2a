-- What an encoder is known by: RFC 3986, section 2.4, and RULES 6. Assumes nothing: these are definitions.
use Rattle.std.specs.Prelude.{ℕ, ◌*◌, ◌≤◌, ◌≡◌, Bool, true, not, ◌&&◌, ◌||◌, List, eqb, length}
use Rattle.base_lists.specs.Bytes.{Bytes, Lacks, percent}
use Rattle.percent_coding.specs.Percent.{is_hex, decoded}

-- decoding gives each text back; a byte that is barred never comes out; bytes come out, at most three for one
pub record Coder (bars : ℕ → Bool) (encode : List ℕ → List ℕ) : Type 0 where
  pub back : (s : List ℕ) → Bytes s → decoded (encode s) ≡ s
  pub lacks : (c : ℕ) → bars c ≡ true → (s : List ℕ) → Bytes s → Lacks c (encode s)
  pub bytes : (s : List ℕ) → Bytes s → Bytes (encode s)
  pub few : (s : List ℕ) → length (encode s) ≤ 3 * length s

-- what never comes out: what must be escaped, but the percent sign and the hex digits, of which escapes are made
abbrev pub barred : (ℕ → Bool) → ℕ → Bool
barred must c = must c && not (eqb c percent || is_hex c)
