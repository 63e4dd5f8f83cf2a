-- The first place in a text that passes a test, and the last place of a byte. Assumes nothing: these are definitions.
use Rattle.std.specs.Prelude.{ℕ, zero, suc, ◌+◌, Bool, cond, List, [], ◌∷◌, eqb, ltb, length}
use Rattle.base_scan.specs.declared.Two.{Two}

-- the index of the first byte that passes, or the length where none does
unfoldable pub index : (ℕ → Bool) → List ℕ → ℕ
index test [] = zero
index test (x ∷ s) = cond (test x) zero (suc (index test s))

-- the same from a cursor on; a cursor beyond the end counts as at the end
unfoldable pub seek : (ℕ → Bool) → ℕ → List ℕ → ℕ
seek test zero s = index test s
seek test (suc at) [] = zero
seek test (suc at) (x ∷ s) = suc (seek test at s)

-- the test for one byte
abbrev pub is : ℕ → ℕ → Bool
is c x = eqb x c

-- the first c from a cursor on, or the length
abbrev pub found : ℕ → ℕ → List ℕ → ℕ
found c at s = seek (is c) at s

-- the first b from a cursor on, and the first c behind it; the length for each that there is not
abbrev pub found_two : ℕ → ℕ → ℕ → List ℕ → Two
found_two b c at s = record { first = found b at s; second = found c (found b at s + 1) s }

-- the first c from a cursor on, where the first from some place on is known: it stays, unless the cursor has passed it
abbrev pub found_on : ℕ → ℕ → ℕ → List ℕ → ℕ
found_on c known at s = cond (ltb known at) (found c at s) known

-- the last c, or the length where there is none: behind the first byte where c stands there, else that byte itself where it is c
unfoldable pub found_last : ℕ → List ℕ → ℕ
found_last c [] = zero
found_last c (x ∷ s) = cond (ltb (index (is c) s) (length s)) (suc (found_last c s)) (cond (is c x) zero (suc (length s)))
