-- Steps in a row hand out what is left from a cursor on. Assumes nothing.
use Rattle.std.specs.Prelude.{ℕ, zero, suc, List, Option, Some, None, ◌≡◌, refl}
use lib.ListN.{take}
use Rattle.base_lists.specs.Steps.{and_on, steps}

-- a step that hands out the first of what is left from a cursor on, and is done where nothing is left
module _ {C N T : Type 0} (step : C → N) (comes : N → Option (T × C)) (left : C → List T)
    (first : (c : C) → left c ≡ and_on (comes (step c)) left) where
  -- n steps hand out the first n of these, in order: where there are no more, all of them, and then the step is done
  pub steps_exact : (n : ℕ) (c : C) → steps step comes n c ≡ take n (left c)
  unfolding steps
  steps_exact zero c = refl
  steps_exact (suc n) c = rw (first c) (go (comes (step c)) (steps_exact n))
    where
      go : (r : Option (T × C)) → ((c : C) → steps step comes n c ≡ take n (left c))
          → and_on r (steps step comes n) ≡ take (suc n) (and_on r left)
      go None more = refl
      go (Some (x, next)) more = rw (more next)
