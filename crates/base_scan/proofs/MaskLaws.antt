-- Laws of `mask`: it is taken apart where its window is, its lowest set digit is the first place, and a mask of 0 has none.
-- Assumes nothing.
use mathlib.Core.Path.{◌≡◌, refl, sym, ap, ap₂, ◌∙◌}
use mathlib.Core.Bool.{Bool, true, false, cond}
use mathlib.Core.List.{List, [], ◌∷◌, ◌++◌, append-nil}
use Prim.Native.Nat.{ℕ, zero, suc, ◌+◌, ◌-◌, ◌*◌, ◌/◌, ◌%◌, ◌^◌, ◌≤◌, ◌<◌}
use native.Mathlib.Omega.{arith}
use native.Mathlib.Nat.{lt_of_lt_of_le, pow-suc, pow-succ', zero-div, mul_assoc, mul_left_comm, div-div-eq-div-mul}
use lib.Dec.{eqb}
use lib.ListN.{length, take, drop, get_or, take-append-drop, length-drop}
use lib.Seq.{drop-cons, drop-drop, take-add, length-take-le, take_all}
use lib.Count.{count_trailing_zeros, under}
use lib.Pow.{pow_mono}
use lib.Lanes.{mask_l, top, zip2}
use mathlib.Core.List.{map}
use mir.Syntax.{w8}
use mir.Val.{bits, hbits}
use Rattle.std.specs.Prelude.{replicate}
use Rattle.std.proofs.lemmas.Simd.{bitmask_splat}
use Rattle.base_lists.specs.Bit.{bit}
use Rattle.base_scan.specs.Find.{index, is, found}
use Rattle.base_scan.specs.Mask.{mask}
use Rattle.base_scan.proofs.FindLaws.{seek_at}

-- a digit is 0 or 1
pub bit_lt : (t : Bool) → bit t < 2
unfolding bit
bit_lt true = omega arith
bit_lt false = omega arith

-- ── a mask by its window ──────────────────────────────────────────────────────────────────────

mask_append : (b : ℕ) (xs ys : List ℕ) → mask b (xs ++ ys) ≡ mask b xs + 2 ^ length xs * mask b ys
unfolding mask
mask_append b [] ys = omega arith
mask_append b (x ∷ xs) ys =
    rw (mask_append b xs ys, pow-suc 2 (length xs), mul_assoc, mul_left_comm (2 ^ length xs) 2) (omega arith)

-- a mask is made of that of the first i bytes and that of those behind them
pub mask_whole : (b i : ℕ) (s : List ℕ) → i ≤ length s → mask b s ≡ mask b (take i s) + 2 ^ i * mask b (drop i s)
mask_whole b i s h =
    ap (mask b) (sym (take-append-drop i s)) ∙ mask_append b (take i s) (drop i s) ∙ rw (length-take-le i s h)

-- so is the mask of m + n bytes
pub mask_more : (b m n : ℕ) (s : List ℕ) → m ≤ length s → mask b (take (m + n) s) ≡ mask b (take m s) + 2 ^ m * mask b (take n (drop m s))
mask_more b m n s h =
    ap (mask b) (take-add m n s) ∙ mask_append b (take m s) (take n (drop m s)) ∙ rw (length-take-le m s h)

-- from `at` on
pub mask_join : (b m n at : ℕ) (s : List ℕ) → at + m ≤ length s
    → mask b (take (m + n) (drop at s)) ≡ mask b (take m (drop at s)) + 2 ^ m * mask b (take n (drop (at + m) s))
mask_join b m n at s h = mask_more b m n (drop at s) (simp length-drop (omega arith)) ∙ rw (drop-drop m at s)

-- one byte more
mask_one : (b i : ℕ) (s : List ℕ) → i < length s → mask b (take 1 (drop i s)) ≡ bit (eqb (get_or s i 0) b)
unfolding mask
mask_one b i s h = rw (drop-cons s i 0 h) (omega arith)

pub mask_push : (b i : ℕ) (s : List ℕ) → i < length s
    → mask b (take i s) + 2 ^ i * bit (eqb (get_or s i 0) b) ≡ mask b (take (i + 1) s)
mask_push b i s h = rw (← mask_one b i s h) (sym (mask_more b i 1 s (omega arith)))

-- it is what the library makes of a vector that is compared with b
mask_bits : (b : ℕ) (xs : List ℕ) → mask_l (map (λ (x : ℕ). eqb x b) xs) ≡ mask b xs
unfolding mask bit
mask_bits b [] = refl
mask_bits b (x ∷ xs) = go (eqb x b) (mask_bits b xs)
  where
    go : (t : Bool) → mask_l (map (λ (y : ℕ). eqb y b) xs) ≡ mask b xs
        → cond t 1 0 + 2 * mask_l (map (λ (y : ℕ). eqb y b) xs) ≡ bit t + 2 * mask b xs
    go true e = omega arith
    go false e = omega arith

pub mask_lanes : (b n : ℕ) (xs : List ℕ) → length xs ≡ n → n ≤ 64
    → mask_l (map (top (hbits w8)) (zip2 (λ x y. cond (eqb x y) (2 ^ bits w8 - 1) 0) xs (replicate n b))) % 2 ^ 64 ≡ mask b xs
mask_lanes b n xs h few = bitmask_splat w8 eqb xs n b h few ∙ mask_bits b xs

-- a window has no digit beyond its bytes
mask_lt : (b : ℕ) (xs : List ℕ) → mask b xs < 2 ^ length xs
unfolding mask
mask_lt b [] = omega arith
mask_lt b (x ∷ xs) = rw (pow-suc 2 (length xs)) (omega (arith, bit_lt (eqb x b), mask_lt b xs))

pub mask_fits : (b w : ℕ) (xs : List ℕ) → length xs ≤ w → mask b xs < 2 ^ w
mask_fits b w xs h = lt_of_lt_of_le (mask_lt b xs) (pow_mono h)

-- the lowest digit, and the others
mask_half : (b x : ℕ) (xs : List ℕ) → mask b (x ∷ xs) / 2 ≡ mask b xs
unfolding mask
mask_half b x xs = omega (arith, bit_lt (eqb x b))

mask_odd : (b x : ℕ) (xs : List ℕ) → mask b (x ∷ xs) % 2 ≡ bit (eqb x b)
unfolding mask
mask_odd b x xs = omega (arith, bit_lt (eqb x b))

-- digits shifted out are bytes dropped
mask_shr : (b k : ℕ) (xs : List ℕ) → mask b xs / 2 ^ k ≡ mask b (drop k xs)
unfolding mask
mask_shr b zero xs = omega arith
mask_shr b (suc k) [] = zero-div (2 ^ suc k)
mask_shr b (suc k) (x ∷ xs) = rw (pow-succ' 2 k, ← div-div-eq-div-mul, mask_half b x xs) (mask_shr b k xs)

-- ── the first place ───────────────────────────────────────────────────────────────────────────

-- where the mask is 0, it is past the window
mask_none : (b : ℕ) (xs ys : List ℕ) → mask b xs ≡ 0 → index (is b) (xs ++ ys) ≡ length xs + index (is b) ys
unfolding index mask bit
mask_none b [] ys e = omega arith
mask_none b (x ∷ xs) ys e = go (eqb x b) (mask_none b xs ys) e
  where
    go : (t : Bool) → (mask b xs ≡ 0 → index (is b) (xs ++ ys) ≡ length xs + index (is b) ys)
        → bit t + 2 * mask b xs ≡ 0 → cond t 0 (suc (index (is b) (xs ++ ys))) ≡ suc (length xs) + index (is b) ys
    go true rest z = absurd (omega arith)
    go false rest z = omega (arith, rest (omega arith))

-- else it is the lowest set digit
pub mask_first : (b k : ℕ) (xs ys : List ℕ) → length xs ≤ k → 0 < mask b xs → index (is b) (xs ++ ys) ≡ count_trailing_zeros k (mask b xs)
unfolding index mask bit count_trailing_zeros
mask_first b k [] ys h p = absurd (omega arith)
mask_first b zero (x ∷ xs) ys h p = absurd (omega arith)
mask_first b (suc k) (x ∷ xs) ys h p =
    go (eqb x b) (mask_first b k xs ys (omega arith)) p
    ∙ sym (ap₂ (λ (d r : ℕ). under d (count_trailing_zeros k r)) (mask_odd b x xs) (mask_half b x xs))
  where
    go : (t : Bool) → (0 < mask b xs → index (is b) (xs ++ ys) ≡ count_trailing_zeros k (mask b xs))
        → 0 < bit t + 2 * mask b xs → cond t 0 (suc (index (is b) (xs ++ ys))) ≡ under (bit t) (count_trailing_zeros k (mask b xs))
    go true rest z = refl
    go false rest z = ap suc (rest (omega arith))

-- ── windows of k bytes ────────────────────────────────────────────────────────────────────────

-- what stands from `at` on: k bytes, and what stands from `at + k` on
window : (at k : ℕ) (s : List ℕ) → take k (drop at s) ++ drop (at + k) s ≡ drop at s
window at k s = rw (← drop-drop k at s) (take-append-drop k (drop at s))

module _ (b at k : ℕ) (s : List ℕ) (inside : at + k ≤ length s) where
  window_length : length (take k (drop at s)) ≡ k
  window_length = length-take-le k (drop at s) (simp length-drop (omega arith))

  -- a window without b is passed
  pub passed : mask b (take k (drop at s)) ≡ 0 → found b at s ≡ found b (at + k) s
  passed e =
      omega (
        arith,
        window_length,
        ap (index (is b)) (window at k s),
        mask_none b (take k (drop at s)) (drop (at + k) s) e,
        seek_at (is b) at s (omega arith),
        seek_at (is b) (at + k) s inside,
      )

  -- in a window with b the lowest digit says where
  pub hit : (w : ℕ) → k ≤ w → 0 < mask b (take k (drop at s)) → found b at s ≡ at + count_trailing_zeros w (mask b (take k (drop at s)))
  hit w kw p =
      let l = window_length in
      omega (
        arith,
        seek_at (is b) at s (omega arith),
        ap (index (is b)) (window at k s),
        mask_first b w (take k (drop at s)) (drop (at + k) s) (omega arith) p,
      )

-- so of a window of 16 that was read
module _ (b at : ℕ) {m : ℕ} (s : List ℕ) (inside : at + 16 ≤ length s) (read : m ≡ mask b (take 16 (drop at s))) where
  pub window_hit : (m ≡ 0 → ⊥) → at + count_trailing_zeros 32 m ≡ found b at s
  window_hit h = omega (arith, ap (count_trailing_zeros 32) read, hit b at 16 s inside 32 (omega arith) (omega arith))

  pub window_none : m ≡ 0 → found b (at + 16) s ≡ found b at s
  window_none z = sym (passed b at 16 s inside (sym read ∙ z))

-- the last window of a text, with the digits below i shifted out, is the mask of what stands from i on
pub mask_tail : (b k i : ℕ) {m : ℕ} (s : List ℕ) → k ≤ length s → length s - k ≤ i → m ≡ mask b (take k (drop (length s - k) s))
    → m / 2 ^ (i - (length s - k)) ≡ mask b (drop i s)
mask_tail b k i s kn h e =
    let last = length s - k in
    let back : last + (i - last) ≡ i = omega arith in
    ap (λ (x : ℕ). x / 2 ^ (i - last)) e
    ∙ mask_shr b (i - last) (take k (drop last s))
    ∙ ap (λ (l : List ℕ). mask b (drop (i - last) l)) (take_all k (drop last s) (simp length-drop (omega arith)))
    ∙ ap (mask b) (drop-drop (i - last) last s ∙ ap (λ (n : ℕ). drop n s) back)

module _ (b i : ℕ) (s : List ℕ) (inside : i ≤ length s) where
  pub tail_none : mask b (drop i s) ≡ 0 → found b i s ≡ length s
  unfolding index
  tail_none e =
      omega
      (arith, seek_at (is b) i s inside, ap (index (is b)) (append-nil (drop i s)), mask_none b (drop i s) [] e, length-drop i s)

  pub tail_hit : (w : ℕ) → length s ≤ i + w → 0 < mask b (drop i s) → found b i s ≡ i + count_trailing_zeros w (mask b (drop i s))
  tail_hit w h p =
      omega (
        arith,
        seek_at (is b) i s inside,
        ap (index (is b)) (append-nil (drop i s)),
        mask_first b w (drop i s) [] (simp length-drop (omega arith)) p,
      )
