-- A test as a number. Assumes nothing: these are definitions.
use Rattle.std.specs.Prelude.{ℕ, Bool, true, false}

-- 1 for true and 0 for false
unfoldable pub bit : Bool → ℕ
bit true = 1
bit false = 0
