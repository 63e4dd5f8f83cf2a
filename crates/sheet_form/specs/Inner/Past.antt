-- What passing a part of a text answers. Assumes nothing: these are definitions.
use Rattle.std.specs.Prelude.{◌≡◌, List, ℕ, ◌≤◌, length, drop, Option, Some, None}
use Rattle.sheet_form.specs.Reader.{Taken, no_form, took}

-- P holds of what was read, and the answer is the cursor in s behind it; nothing is answered where nothing was read
pub data Passes {A : Type 0} (P : A → Type 0) (s : List ℕ) : Option ℕ → Taken A → Type 0 where
  stopped : Passes P s None no_form
  past : {a : A} {rest : List ℕ} {r : ℕ} → r ≤ length s → rest ≡ drop r s → P a → Passes P s (Some r) (took a rest)
