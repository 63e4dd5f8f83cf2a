-- Where a byte stands in a window, as the digits of a number. Assumes nothing: these are definitions.
use Rattle.std.specs.Prelude.{ℕ, ◌+◌, ◌*◌, List, [], ◌∷◌, eqb}
use Rattle.base_lists.specs.Bit.{bit}

-- a number whose binary digit k, from the lowest, says whether byte k of the window is b
unfoldable pub mask : ℕ → List ℕ → ℕ
mask b [] = 0
mask b (x ∷ s) = bit (eqb x b) + 2 * mask b s
