-- Readers: each takes what it reads from the front of a text, or refuses it. Assumes nothing: these are definitions.
use Rattle.std.specs.Prelude.{List, [], ◌∷◌, ℕ, zero, suc, ◌+◌, ◌*◌}

-- what was read, and the text that is left
pub data Taken (A : Type 0) : Type 0 where
  no_form : Taken A
  took : A → List ℕ → Taken A

-- the refusal of a text that is not of the form (RULES 10), and 0 for one that is
abbrev pub form_refusal : {A : Type 0} → Taken A → ℕ
form_refusal no_form = 23
form_refusal (took a s) = 0

abbrev pub Reader : Type 0 → Type 0
Reader A = List ℕ → Taken A

abbrev pub onwards : {A B : Type 0} → Taken A → (A → Reader B) → Taken B
onwards no_form f = no_form
onwards (took a s) f = f a s

abbrev pub ◌>>=◌ : {A B : Type 0} → Reader A → (A → Reader B) → Reader B
◌>>=◌ r f = λ s. onwards (r s) f

abbrev pub give : {A : Type 0} → A → Reader A
give a = λ s. took a s

abbrev pub refuse : {A : Type 0} → Reader A
refuse = λ s. no_form

abbrev pub byte : Reader ℕ
byte [] = no_form
byte (x ∷ s) = took x s

-- RULES 9.1: a count is four bytes, low byte first
unfoldable pub read_count : Reader ℕ
read_count = do
  a ← byte
  b ← byte
  c ← byte
  d ← byte
  give (a + 256 * b + 65536 * (c + 256 * d))

-- n things, one after the other
unfoldable pub times : {A : Type 0} → Reader A → ℕ → Reader (List A)
times r zero = give []
times r (suc n) = do
  a ← r
  more ← times r n
  give (a ∷ more)

-- so, where n is at least 1
unfoldable pub times_some : {A : Type 0} → Reader A → ℕ → Reader (List A)
times_some r zero = refuse
times_some r (suc n) = times r (suc n)

-- a count, and so many things
unfoldable pub counted : {A : Type 0} → Reader A → Reader (List A)
counted r = do
  n ← read_count
  times r n

-- a count of at least 1, and so many things
unfoldable pub counted_some : {A : Type 0} → Reader A → Reader (List A)
counted_some r = do
  n ← read_count
  times_some r n
