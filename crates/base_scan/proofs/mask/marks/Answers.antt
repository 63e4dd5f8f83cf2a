-- `marks`: by one of the three on the first 64 bytes. Assumes nothing.
use mathlib.Core.Path.{◌≡◌, sym, ap, ◌∙◌}
use mathlib.Core.List.{List}
use Prim.Native.Nat.{ℕ, ◌≤◌}
use native.Mathlib.Omega.{arith}
use lib.ListN.{length, take}
use lib.Seq.{take_all, take-length}
use Rattle.base_scan.specs.Mask.{mask}
use Rattle.base_scan.proofs.mask.marks.Goals as goal

-- a text of at most 64 bytes is its own first 64
short : (b : ℕ) (l : List ℕ) → length l ≤ 64 → mask b (take 64 l) ≡ mask b l
short b l h = ap (mask b) (take_all 64 l h)

pub returns-then-n-lt16 : goal.returns-then-n-lt16
returns-then-n-lt16 c = let a = c.args in c.marks_few.ensures ∙ sym (short a.b a.given.now (omega arith))

pub slice_bounds-marks_many-end : goal.slice_bounds-marks_many-end
slice_bounds-marks_many-end c = sym (ap length (take-length c.args.given.now))

pub marks_many-requires : goal.marks_many-requires
marks_many-requires c = let n = ap length (take-length c.args.given.now) in (omega arith, omega arith)

pub returns-then-n-lt64 : goal.returns-then-n-lt64
returns-then-n-lt64 c =
    let a = c.args in
    c.marks_many.ensures ∙ ap (mask a.b) (take-length a.given.now) ∙ sym (short a.b a.given.now (omega arith))
