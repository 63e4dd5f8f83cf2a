-- Laws of the ends by a mask: where the first 64 bytes of a line have its eight tabs, they are the line's own. Assumes nothing.
use Rattle.std.proofs.Common.{◌≡◌, ℕ, zero, suc, ◌+◌, ◌-◌, ◌<◌, ◌≤◌, true, List, length, take, sym, ap, ◌∙◌, one-mul, arith, le-leb}
use lib.Bits.{bit_and, and_le_l}
use lib.Count.{count_trailing_zeros, trailing_of_zero}
use Rattle.base_lists.specs.Bytes.{tab}
use Rattle.base_scan.specs.Find.{found}
use Rattle.base_scan.specs.Mask.{mask}
use Rattle.base_scan.proofs.MarkLaws.{Marked, marked_next}
use Rattle.read_columns.specs.Columns.{past_tab, ends, has_columns}
use Rattle.read_columns.specs.Inner.Near.{lowered, past_digit, near_ends}
use Rattle.read_columns.proofs.ColumnsLaws.{past_tab_next}

-- ── digits taken away one by one ──────────────────────────────────────────────────────────────

pub lowered_next : {r x : ℕ} (n m : ℕ) → r ≡ bit_and x (x - 1) → x ≡ lowered n m → r ≡ lowered (suc n) m
unfolding lowered
lowered_next n m e f = e ∙ ap (λ (x : ℕ). bit_and x (x - 1)) f

pub past_lowered : {r x : ℕ} (n m : ℕ) → r ≡ count_trailing_zeros 64 x + 1 → x ≡ lowered n m → r ≡ past_digit n m
past_lowered n m e f = e ∙ ap (λ (x : ℕ). count_trailing_zeros 64 x + 1) f

-- one that is left was there before
lowered_pos : (n m : ℕ) → 0 < lowered (suc n) m → 0 < lowered n m
unfolding lowered
lowered_pos n m h = omega (arith, and_le_l (lowered n m) (lowered n m - 1))

-- a place among the 64 is a digit's
some_digit : (m : ℕ) → count_trailing_zeros 64 m + 1 ≤ 64 → 0 < m
some_digit zero h = absurd (omega (arith, trailing_of_zero 64))
some_digit (suc m) h = omega arith

-- ── the tabs of a line ────────────────────────────────────────────────────────────────────────

module _ (s : List ℕ) where
  abbrev tabs : ℕ
  tabs = mask tab (take 64 s)

  -- without n digits the mask has the tabs behind column n
  behind : (n : ℕ) → 0 < lowered n tabs → Marked tab 64 s (past_tab n s) (lowered n tabs)
  unfolding lowered past_tab
  behind zero h = sym (one-mul tabs)
  behind (suc n) h =
      let before = lowered_pos n tabs h in
      rw (past_tab_next n s) (marked_next tab 64 s 64 (past_tab n s) (lowered n tabs) (omega arith) (behind n before) before).2

  -- so its next digit is the end of the next column
  next_end : (n : ℕ) → 0 < lowered n tabs → (past_digit n tabs ≡ past_tab (suc n) s) × (past_tab (suc n) s ≤ length s)
  next_end n h =
      let k = marked_next tab 64 s 64 (past_tab n s) (lowered n tabs) (omega arith) (behind n h) h in
      (omega (arith, k.0, past_tab_next n s), omega (arith, k.1, past_tab_next n s))

  -- a digit that it has is the next tab from the end before
  pub near_next : (n : ℕ) {x e : ℕ} → x ≡ past_digit n tabs → e ≡ past_tab n s → x ≤ 64 → x ≡ found tab e s + 1
  near_next n d at h = d ∙ rw at ((next_end n (some_digit (lowered n tabs) (rw d at h))).0 ∙ past_tab_next n s)

  -- and one past the next tab is the next end, however it was found
  pub next_is : (n : ℕ) {e r : ℕ} → r ≡ found tab e s + 1 → e ≡ past_tab n s → r ≡ past_tab (suc n) s
  next_is n f at = f ∙ rw at (sym (past_tab_next n s))

  -- eight digits are the eight ends
  pub near_own : past_digit 7 tabs ≤ 64 → (near_ends tabs ≡ ends s) × (has_columns s ≡ true)
  unfolding ends
  near_own h =
      let p₇ = some_digit (lowered 7 tabs) h in
      let p₆ = lowered_pos 6 tabs p₇ in
      let p₅ = lowered_pos 5 tabs p₆ in
      let p₄ = lowered_pos 4 tabs p₅ in
      let p₃ = lowered_pos 3 tabs p₄ in
      let p₂ = lowered_pos 2 tabs p₃ in
      let p₁ = lowered_pos 1 tabs p₂ in
      let p₀ = lowered_pos 0 tabs p₁ in (
        rw (
          (next_end 7 p₇).0,
          (next_end 6 p₆).0,
          (next_end 5 p₅).0,
          (next_end 4 p₄).0,
          (next_end 3 p₃).0,
          (next_end 2 p₂).0,
          (next_end 1 p₁).0,
          (next_end 0 p₀).0,
        ),
        le-leb _ _ (next_end 7 p₇).1,
      )
