-- Each reason has its own number, that of RULES 10, and none has 0 or 22. Assumes nothing.
use mathlib.Core.Path.{◌≡◌, refl}
use Rattle.std.specs.Prelude.{ℕ, Option, Some, None, Result, Err, eqb, cond, List, [], ◌∷◌, map}
use Rattle.base_refusals.specs.declared.Refusal.{Refusal}
use Rattle.base_refusals.specs.declared.Refusal.TheVariants as refusal
use Rattle.base_refusals.specs.Refusal.{number}

reasons : List Refusal
reasons =
    refusal.Columns ∷ refusal.Position ∷ refusal.Strand ∷ refusal.Phase ∷ refusal.Attribute ∷ refusal.Empty ∷ refusal.Major ∷
    refusal.Minor ∷ refusal.Patch ∷ refusal.RegionNameMissing ∷ refusal.RegionStartMissing ∷ refusal.RegionStart ∷
    refusal.RegionEndMissing ∷ refusal.RegionEnd ∷ refusal.BuildSourceMissing ∷ refusal.BuildNameMissing ∷ refusal.Score ∷
    refusal.PhaseMissing ∷ refusal.Key ∷ refusal.Text ∷ refusal.ValueKey ∷ refusal.Sheet ∷ refusal.TooLong ∷
    refusal.LineTooLong ∷ refusal.Sum ∷ refusal.Hold ∷ []

-- their numbers once more, in the order of RULES 10: 22 and 27 to 33 are no reason's, so two that are exchanged in the code and in its
-- definition are refused here
in_order : map number reasons ≡
    1 ∷ 2 ∷ 3 ∷ 4 ∷ 5 ∷ 6 ∷ 7 ∷ 8 ∷ 9 ∷ 10 ∷ 11 ∷ 12 ∷ 13 ∷ 14 ∷ 15 ∷ 16 ∷ 17 ∷ 18 ∷ 19 ∷ 20 ∷ 21 ∷ 23 ∷ 24 ∷ 25 ∷ 26 ∷ 34 ∷ []
unfolding reasons
in_order = refl

-- an answer is refused, and its reason has this number
infix 2 ◌gives◌
abbrev pub ◌gives◌ : {A : Type 0} → Result A Refusal → ℕ → Type 0
◌gives◌ answer n = (r : Refusal) × (answer ≡ Err r) × (number r ≡ n)

found : ℕ → List Refusal → Option Refusal
found n [] = None
found n (r ∷ more) = cond (eqb (number r) n) (Some r) (found n more)

-- a number has one reason at most: the reason of a reason's number is that reason
has_own_number : (r : Refusal) → found (number r) reasons ≡ Some r
unfolding found reasons
has_own_number refusal.Columns = refl
has_own_number refusal.Position = refl
has_own_number refusal.Strand = refl
has_own_number refusal.Phase = refl
has_own_number refusal.Attribute = refl
has_own_number refusal.Empty = refl
has_own_number refusal.Major = refl
has_own_number refusal.Minor = refl
has_own_number refusal.Patch = refl
has_own_number refusal.RegionNameMissing = refl
has_own_number refusal.RegionStartMissing = refl
has_own_number refusal.RegionStart = refl
has_own_number refusal.RegionEndMissing = refl
has_own_number refusal.RegionEnd = refl
has_own_number refusal.BuildSourceMissing = refl
has_own_number refusal.BuildNameMissing = refl
has_own_number refusal.Score = refl
has_own_number refusal.PhaseMissing = refl
has_own_number refusal.Key = refl
has_own_number refusal.Text = refl
has_own_number refusal.ValueKey = refl
has_own_number refusal.Sheet = refl
has_own_number refusal.TooLong = refl
has_own_number refusal.LineTooLong = refl
has_own_number refusal.Sum = refl
has_own_number refusal.Hold = refl

-- 0 is no reason's number, nor is 22, which `base_buffer` gives
is_no_reason : (found 0 reasons ≡ None) × (found 22 reasons ≡ None)
unfolding found reasons
is_no_reason = (refl, refl)
