-- Laws of a mask's digits one after another: the lowest is the first place, and the mask without it has those behind that place.
-- Assumes nothing.
use mathlib.Core.Path.{◌≡◌, sym, ap, ap₂, ◌∙◌}
use mathlib.Core.Bool.{Bool, true, false, cond}
use mathlib.Core.List.{List, [], ◌∷◌, ◌++◌, append-nil}
use Prim.Native.Nat.{ℕ, zero, suc, ◌+◌, ◌-◌, ◌*◌, ◌/◌, ◌%◌, ◌^◌, ◌≤◌, ◌<◌}
use native.Mathlib.Omega.{arith}
use native.Mathlib.Nat.{zero-add, add-mul, one-mul, mul_comm, mul-zero, mul_assoc, pow-succ'}
use lib.Dec.{eqb}
use lib.ListN.{length, take, drop, take-append-drop, length-take, length-drop}
use lib.Seq.{drop-drop, drop-append-le}
use lib.Bits.{bit_and, and_step, and_self, and_block}
use lib.Count.{count_trailing_zeros, under}
use lib.Pow.{pow_pos, pow-add, ones_lt}
use Rattle.base_lists.specs.Bit.{bit}
use Rattle.base_scan.specs.Find.{index, is, found}
use Rattle.base_scan.specs.Mask.{mask}
use Rattle.base_scan.proofs.FindLaws.{seek_at}
use Rattle.base_scan.proofs.MaskLaws.{mask_first}

twice : (k n : ℕ) → 2 ^ suc k * n ≡ 2 * (2 ^ k * n)
twice k n = ap (λ (p : ℕ). p * n) (pow-succ' 2 k) ∙ mul_assoc 2 (2 ^ k) n

-- a mask that is not 0: zeros before the first place, a digit for it, and the mask of what stands behind it
mask_split : (b : ℕ) (xs : List ℕ) → 0 < mask b xs
    → mask b xs ≡ 2 ^ index (is b) xs * (1 + 2 * mask b (drop (suc (index (is b) xs)) xs))
unfolding index mask bit
mask_split b [] p = absurd (omega arith)
mask_split b (x ∷ xs) p = go (eqb x b) (mask_split b xs) p
  where
    go : (t : Bool) → (0 < mask b xs → mask b xs ≡ 2 ^ index (is b) xs * (1 + 2 * mask b (drop (suc (index (is b) xs)) xs)))
        → 0 < bit t + 2 * mask b xs
        → bit t + 2 * mask b xs
        ≡ 2 ^ cond t 0 (suc (index (is b) xs)) * (1 + 2 * mask b (drop (cond t 0 (suc (index (is b) xs))) xs))
    go true rest z = omega arith
    go false rest z =
        zero-add _ ∙ ap (λ (n : ℕ). 2 * n) (rest (omega arith)) ∙ sym (twice (index (is b) xs) (1 + 2 * mask b (drop (suc (index (is b) xs)) xs)))

-- its lowest digit stands above those zeros
trailing_odd : (w n : ℕ) → count_trailing_zeros (suc w) (1 + 2 * n) ≡ 0
unfolding count_trailing_zeros
trailing_odd w n =
    let d : (1 + 2 * n) % 2 ≡ 1 = omega arith in ap (λ (x : ℕ). under x (count_trailing_zeros w ((1 + 2 * n) / 2))) d

trailing_even : (w n : ℕ) → count_trailing_zeros (suc w) (2 * n) ≡ suc (count_trailing_zeros w n)
unfolding count_trailing_zeros
trailing_even w n =
    let d : 2 * n % 2 ≡ 0 = omega arith in
    let h : 2 * n / 2 ≡ n = omega arith in ap₂ (λ (x y : ℕ). under x (count_trailing_zeros w y)) d h

low_zeros : (k w q : ℕ) → k < w → count_trailing_zeros w (2 ^ k * (1 + 2 * q)) ≡ k
low_zeros k zero q h = absurd (omega arith)
low_zeros zero (suc w) q h = ap (count_trailing_zeros (suc w)) (one-mul (1 + 2 * q)) ∙ trailing_odd w q
low_zeros (suc k) (suc w) q h =
    ap (count_trailing_zeros (suc w)) (twice k (1 + 2 * q)) ∙ trailing_even w (2 ^ k * (1 + 2 * q)) ∙ ap suc (low_zeros k w q (omega arith))

-- and what the number and the one below it both have is the number without that digit
and_odd : (q : ℕ) → bit_and (1 + 2 * q) (2 * q) ≡ 2 * q
and_odd q =
    let a : (1 + 2 * q) / 2 ≡ q = omega arith in
    let b : 2 * q / 2 ≡ q = omega arith in
    let c : (1 + 2 * q) % 2 ≡ 1 = omega arith in
    let d : 2 * q % 2 ≡ 0 = omega arith in
    and_step (1 + 2 * q) (2 * q) ∙ rw (a, b, c, d, and_self q) (omega arith)

clears : (k q : ℕ) → bit_and (2 ^ k * (1 + 2 * q)) (2 ^ k * (1 + 2 * q) - 1) ≡ 2 ^ suc k * q
clears k q =
    let p = 2 ^ k in
    let n : p * (1 + 2 * q) ≡ 2 * q * p + p = omega (arith, mul_comm p (1 + 2 * q), add-mul 1 (2 * q) p) in
    let a : p * (1 + 2 * q) ≡ (1 + 2 * q) * p + 0 = omega (arith, mul_comm p (1 + 2 * q)) in
    let b : p * (1 + 2 * q) - 1 ≡ 2 * q * p + (p - 1) = omega (arith, n, pow_pos k) in
    ap₂ bit_and a b ∙ and_block k (1 + 2 * q) (2 * q) 0 (p - 1) (pow_pos k) (ones_lt k) ∙ rw (and_odd q) (omega (arith, twice k q, mul_comm p q, mul_assoc 2 q p))

-- the first place stands inside
mask_inside : (b : ℕ) (xs : List ℕ) → 0 < mask b xs → index (is b) xs < length xs
unfolding index mask bit
mask_inside b [] p = absurd (omega arith)
mask_inside b (x ∷ xs) p = go (eqb x b) (mask_inside b xs) p
  where
    go : (t : Bool) → (0 < mask b xs → index (is b) xs < length xs) → 0 < bit t + 2 * mask b xs
        → cond t 0 (suc (index (is b) xs)) < suc (length xs)
    go true rest z = omega arith
    go false rest z = omega (arith, rest (omega arith))

factor_pos : (p n : ℕ) → 0 < p * n → 0 < n
factor_pos p zero h = absurd (omega (arith, mul-zero p))
factor_pos p (suc n) h = omega arith

module _ (b n : ℕ) (s : List ℕ) where
  -- m has a digit for each place from e on among the first n bytes, and none below
  abbrev pub Marked : ℕ → ℕ → Type 0
  Marked e m = m ≡ 2 ^ e * mask b (drop e (take n s))

  -- its lowest digit is the next place, and without it it has those behind that place
  pub marked_next : (w e m : ℕ) → n ≤ w → Marked e m → 0 < m
      → (count_trailing_zeros w m ≡ found b e s) × (found b e s < length s) × Marked (found b e s + 1) (bit_and m (m - 1))
  marked_next w e m nw h z =
      let t = take n s in
      let ys = drop e t in
      let j = index (is b) ys in
      let q = mask b (drop (suc j) ys) in
      let p = factor_pos (2 ^ e) (mask b ys) (rw h at z) in
      let inside = mask_inside b ys p in
      let few = length-take n s in
      let left = length-drop e t in
      let whole : m ≡ 2 ^ (e + j) * (1 + 2 * q) =
      h
      ∙ ap (λ (x : ℕ). 2 ^ e * x) (mask_split b ys p)
      ∙ sym (mul_assoc (2 ^ e) (2 ^ j) (1 + 2 * q))
      ∙ ap (λ (x : ℕ). x * (1 + 2 * q)) (sym (pow-add 2 e j)) in
      let behind : drop e s ≡ ys ++ drop n s =
      ap (drop e) (sym (take-append-drop n s)) ∙ drop-append-le e t (drop n s) (omega arith) in
      let first : index (is b) (ys ++ drop n s) ≡ j =
      mask_first b w ys (drop n s) (omega arith) p ∙ sym (mask_first b w ys [] (omega arith) p) ∙ ap (index (is b)) (append-nil ys) in
      let place : found b e s ≡ e + j = seek_at (is b) e s (omega arith) ∙ ap (λ (x : ℕ). e + x) (ap (index (is b)) behind ∙ first) in
      let up : suc (e + j) ≡ found b e s + 1 = omega arith in
      let on : e + suc j ≡ found b e s + 1 = omega arith in (
        ap (count_trailing_zeros w) whole ∙ low_zeros (e + j) w q (omega arith) ∙ sym place,
        omega arith,
        ap (λ (x : ℕ). bit_and x (x - 1)) whole
            ∙ clears (e + j) q
            ∙ ap₂ (λ (k : ℕ) (l : List ℕ). 2 ^ k * mask b l) up (drop-drop (suc j) e t ∙ ap (λ (k : ℕ). drop k t) on),
      )
