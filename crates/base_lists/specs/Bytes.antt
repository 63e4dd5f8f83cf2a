-- What is said of each byte of a text, of a byte by ranges and lists, a text without its first byte, and bytes by their names. Assumes
-- nothing: these are definitions.
use Rattle.std.specs.Prelude.{ℕ, ◌<◌, ◌≢◌, Bool, false, cond, ◌&&◌, ◌||◌, List, [], ◌∷◌, eqb, leb}
use Prim.Native.Char.{code}
use Prim.Native.String.{String, [] as no_char, ◌∷◌ as ◌then-char◌}

-- P holds of each
abbrev pub Every {ℓ} : {A : Type ℓ} → (A → Type 0) → List A → Type 0
Every P [] = Unit {0}
Every P (x ∷ s) = P x × Every P s

-- each number is a byte's
abbrev pub Bytes : List ℕ → Type 0
Bytes s = Every (λ x. x < 256) s

-- c is none of them
abbrev pub Lacks : ℕ → List ℕ → Type 0
Lacks c s = Every (λ x. x ≢ c) s

-- x lies in a range, both ends included
abbrev pub between : ℕ → ℕ → ℕ → Bool
between low high x = leb low x && leb x high

-- x is one of a list
abbrev pub among : List ℕ → ℕ → Bool
among [] x = false
among (c ∷ more) x = eqb x c || among more x

-- a text without the one byte that it may begin with, where the byte passes a test
unfoldable pub sans : (ℕ → Bool) → List ℕ → List ℕ
sans test [] = []
sans test (x ∷ s) = cond (test x) s (x ∷ s)

-- ── bytes by their names ──

-- the bytes of a text in ASCII
abbrev pub ascii : String → List ℕ
ascii no_char = []
ascii (c then-char s) = code c ∷ ascii s

-- tab, line feed, carriage return, space
abbrev pub tab : ℕ
tab = 9

abbrev pub lf : ℕ
lf = 10

abbrev pub cr : ℕ
cr = 13

abbrev pub sp : ℕ
sp = 32

-- `#` `%` `&` `+` `,` `-` `.` `;` `=` `?`
abbrev pub hash : ℕ
hash = 35

abbrev pub percent : ℕ
percent = 37

abbrev pub ampersand : ℕ
ampersand = 38

abbrev pub plus : ℕ
plus = 43

abbrev pub comma : ℕ
comma = 44

abbrev pub minus : ℕ
minus = 45

abbrev pub dot : ℕ
dot = 46

abbrev pub semicolon : ℕ
semicolon = 59

abbrev pub equals : ℕ
equals = 61

abbrev pub question : ℕ
question = 63
