-- Steps in a row, of any step from a cursor on: of its answer comes nothing, or a thing and the next cursor. Assumes nothing: these are
-- definitions.
use Rattle.std.specs.Prelude.{ℕ, zero, suc, List, [], ◌∷◌, Option, Some, None}

-- the thing, and what is handed out from the next cursor on
abbrev pub and_on : {C T : Type 0} → Option (T × C) → (C → List T) → List T
and_on None more = []
and_on (Some (x, next)) more = x ∷ more next

-- what n steps in a row hand out from a cursor on; `comes` says what comes of an answer
unfoldable pub steps : {C N T : Type 0} → (C → N) → (N → Option (T × C)) → ℕ → C → List T
steps step comes zero c = []
steps step comes (suc n) c = and_on (comes (step c)) (steps step comes n)
