-- Laws of `laid` and `Lays`. Assumes nothing.
use native.Mathlib.Omega.{arith}
use native.Mathlib.Numerals.{add-one}
use native.Mathlib.Nat.{zero-add, add-zero, min-eq_left}
use mathlib.Core.Path.{◌≡◌, refl, sym, ap, ◌∙◌}
use mathlib.Core.Logic.{◌⊎◌, inl, inr}
use mathlib.Core.List.{List, [], ◌∷◌, ◌++◌}
use Prim.Native.Nat.{ℕ, suc, ◌+◌, ◌-◌, ◌≤◌, ◌<◌, min}
use lib.ListN.{length, drop, get_or, set, length-append, drop_of_length-le}
use Rattle.base_lists.proofs.OrderLaws.{le_or_lt}
use lib.Seq.{sets, sets-eq, length-sets, set_out, set-set, set_comm, drop-cons}
use Rattle.base_buffer.specs.Laid.{laid, Lays}

laid_sets : (text d : List ℕ) (at : ℕ) → laid d at text ≡ sets d at text
unfolding laid
laid_sets [] d at = refl
laid_sets (x ∷ text) d at = rw add-one (laid_sets text (set d at x) (suc at))

pub length_laid : (text d : List ℕ) (at : ℕ) → length (laid d at text) ≡ length d
length_laid text d at = ap length (laid_sets text d at) ∙ length-sets d at text

-- a text laid after another
pub laid_append : (a b d : List ℕ) (at : ℕ) → laid d at (a ++ b) ≡ laid (laid d at a) (at + length a) b
unfolding laid
laid_append [] b d at = rw add-zero
laid_append (x ∷ a) b d at =
    let e : at + 1 + length a ≡ at + suc (length a) = omega arith in
    rw (← e) (laid_append a b (set d at x) (at + 1))

-- past the end nothing is laid
pub laid_past : (text d : List ℕ) (at : ℕ) → length d ≤ at → laid d at text ≡ d
unfolding laid
laid_past [] d at h = refl
laid_past (x ∷ text) d at h = rw (set_out d at x h) (laid_past text d (at + 1) (omega arith))

-- where there is room, the buffer starts with the text and keeps what is behind
pub laid_start : (text d : List ℕ) → length text ≤ length d → laid d 0 text ≡ text ++ drop (length text) d
laid_start text d room =
    let r : 0 + length text ≤ length d = omega arith in
    laid_sets text d 0 ∙ sets-eq text d 0 r ∙ rw zero-add

-- so a place past the end is as good as the end
laid_clipped : (text d : List ℕ) (at : ℕ) → laid d (min at (length d)) text ≡ laid d at text
laid_clipped text d at = go (le_or_lt at (length d))
  where
    go : (at ≤ length d) ⊎ (length d < at) → laid d (min at (length d)) text ≡ laid d at text
    go (inl h) = rw (min-eq_left h)
    go (inr h) = laid_past text d (min at (length d)) (omega arith) ∙ sym (laid_past text d at (omega arith))

-- a copy, one byte further
pub laid_next : (s d : List ℕ) (at i : ℕ) → i < length s
    → laid d (at + i) (drop i s) ≡ laid (set d (at + i) (get_or s i 0)) (at + (i + 1)) (drop (i + 1) s)
unfolding laid
laid_next s d at i h =
    let e : at + i + 1 ≡ at + suc i = omega arith in
    rw (add-one, drop-cons s i 0 h) (ap (λ (n : ℕ). laid (set d (at + i) (get_or s i 0)) n (drop (suc i) s)) e)

-- a copy of all that there is, or that there is room for
pub laid_over : (s d : List ℕ) (at i : ℕ) → i ≡ min (length s) (length d - at) → at ≤ length d → laid d (at + i) (drop i s) ≡ d
unfolding laid
laid_over s d at i e h = go (le_or_lt (length s) i)
  where
    go : (length s ≤ i) ⊎ (i < length s) → laid d (at + i) (drop i s) ≡ d
    go (inl k) = rw (drop_of_length-le s k)
    go (inr k) = laid_past (drop i s) d (at + i) (omega arith)

-- a byte before a text that is laid may as well be set first
set_laid : (text d : List ℕ) (at k x : ℕ) → k < at → set (laid d at text) k x ≡ laid (set d k x) at text
unfolding laid
set_laid [] d at k x h = refl
set_laid (y ∷ text) d at k x h =
    set_laid text (set d at y) (at + 1) k x (omega arith)
    ∙ ap (λ (d : List ℕ). laid d (at + 1) text) (set_comm d at k y x (λ e. omega arith))

-- a text is laid over another of its length, which stands before a third
laid_again : (a c b d : List ℕ) (at : ℕ) → length a ≡ length c → laid (laid d at (a ++ b)) at c ≡ laid d at (c ++ b)
unfolding laid
laid_again [] [] b d at e = refl
laid_again [] (y ∷ c) b d at e = absurd (omega arith)
laid_again (x ∷ a) [] b d at e = absurd (omega arith)
laid_again (x ∷ a) (y ∷ c) b d at e =
    ap (λ (d : List ℕ). laid d (at + 1) c)
    (set_laid (a ++ b) (set d at x) (at + 1) at y (omega arith) ∙ ap (λ (d : List ℕ). laid d (at + 1) (a ++ b)) (set-set d at x y))
    ∙ laid_again a c b (set d at y) (at + 1) (omega arith)

-- ── what is laid, one text after another ──────────────────────────────────────────────────────

pub lays_length : {text d d' : List ℕ} {at r : ℕ} → Lays text d at d' r → length d' ≡ length d
lays_length {text} {d} {d'} {at} p = ap length p.left ∙ length_laid text d at

pub lays_none : (d : List ℕ) (at : ℕ) → at ≤ length d → Lays [] d at d at
unfolding laid
lays_none d at h = record { left = refl; end = omega arith }

module _ {a b d d₁ D : List ℕ} {at r₁ R : ℕ} where
  pub lays_then : Lays a d at d₁ r₁ → Lays b d₁ r₁ D R → Lays (a ++ b) d at D R
  lays_then p q =
      let l = lays_length p in
      let e : r₁ ≡ min (at + length a) (length d₁) = omega arith in
      record {
        left = q.left ∙ rw (e, laid_clipped b d₁ (at + length a), laid_append a b d at, p.left);
        end = simp length-append (omega arith);
      }

  -- of two texts the first is laid: the second is left to lay
  pub lays_rest : Lays (a ++ b) d at D R → Lays a d at d₁ r₁ → Lays b d₁ r₁ D R
  lays_rest p q =
      let l = lays_length q in
      let e : r₁ ≡ min (at + length a) (length d₁) = omega arith in
      record {
        left = p.left ∙ rw (e, laid_clipped b d₁ (at + length a), laid_append a b d at, q.left);
        end = omega (arith, simp length-append at p.end);
      }

-- a text whose place is kept by another of its length, until what stands behind it is laid
pub lays_again : {a b c d d₁ d₂ D : List ℕ} {at r₁ r₂ R : ℕ} → length a ≡ length c → Lays a d at d₁ r₁ → Lays b d₁ r₁ d₂ r₂
    → Lays c d₂ at D R → Lays (c ++ b) d at D r₂
lays_again {a} {b} {c} {d} {d₁} {d₂} {D} {at} {r₁} {r₂} {R} e p q again =
    let both = lays_then p q in
    record {
      left = again.left ∙ rw both.left (laid_again a c b d at e);
      end = both.end ∙ simp length-append (rw e);
    }

-- of `text`, to be laid over d₀ from at₀ on, `rest` is left to lay
abbrev pub Left : List ℕ → List ℕ → ℕ → List ℕ → List ℕ → ℕ → Type 0
Left text d₀ at₀ rest d at = Lays rest d at (laid d₀ at₀ text) (min (at₀ + length text) (length d₀))

-- the start: all of it
pub left_start : (text d : List ℕ) (at : ℕ) → Left text d at text d (min at (length d))
left_start text d at = record { left = sym (laid_clipped text d at); end = omega arith }

pub left_all : (text d : List ℕ) (at : ℕ) → Left text d at text d at
left_all text d at = record { left = refl; end = refl }

module _ {text d₀ d : List ℕ} {at₀ at : ℕ} where
  -- the end
  pub none_left : at ≤ length d → Left text d₀ at₀ [] d at → Lays text d₀ at₀ d at
  unfolding laid
  none_left h p = record { left = sym p.left; end = omega arith }
