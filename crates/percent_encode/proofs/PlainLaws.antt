-- A text of which nothing is escaped, by windows that may overlap. Assumes nothing.
use Prim.Native.Nat.{ℕ, zero, suc, ◌+◌, ◌-◌, ◌*◌, ◌≤◌, ◌<◌}
use native.Mathlib.Omega.{arith}
use native.Mathlib.Numerals.{add-one}
use mathlib.Core.Path.{◌≡◌, refl, sym, ap, ◌∙◌}
use mathlib.Core.Bool.{Bool, true, false, cond, not, ◌&&◌}
use mathlib.Core.List.{List, [], ◌∷◌, ◌++◌}
use lib.Dec.{eqb}
use lib.ListN.{length, take, drop, get_or, take-append-drop, length-drop}
use lib.Seq.{take-add, take-suc, take-take, take_all, get_or-drop}
use borrow.Author.Tests.{eqb-true, eqb-false, ne_eqb}
use Rattle.percent_coding.specs.Percent.{encoded, count_escaped}
use Rattle.percent_sets.specs.Sets.{escapes}
use Rattle.percent_sets.specs.declared.Set.TheVariants.{Column, Attribute}
use Rattle.percent_coding.proofs.PercentLaws.{count_append, encoded_none, count_within}

module _ (set : ℕ → Bool) where
  -- nothing of a text is escaped
  abbrev pub plain : List ℕ → Bool
  plain s = eqb (count_escaped set s) 0

  -- a text, cut in two
  pub count_cut : (i : ℕ) (s : List ℕ) → count_escaped set s ≡ count_escaped set (take i s) + count_escaped set (drop i s)
  count_cut i s = ap (count_escaped set) (sym (take-append-drop i s)) ∙ count_append set (take i s) (drop i s)

  -- a window has no more than the text
  count_window : (at n : ℕ) (s : List ℕ) → count_escaped set (take n (drop at s)) ≤ count_escaped set s
  count_window at n s = omega (arith, count_cut at s, count_cut n (drop at s))

  -- nor have the first bytes more than some more of them
  count_fewer : (m n : ℕ) (s : List ℕ) → m ≤ n → count_escaped set (take m s) ≤ count_escaped set (take n s)
  count_fewer m n s h = rw (take-take m n s h) at (count_window 0 m (take n s))

  -- a byte more
  pub plain_next : (at n : ℕ) (s : List ℕ) → at + n < length s
      → plain (take (n + 1) (drop at s)) ≡ (plain (take n (drop at s)) && not (set (get_or s (at + n) 0)))
  unfolding count_escaped
  plain_next at n s h =
      let w = drop at s in
      let x = get_or s (at + n) 0 in
      let e : take (n + 1) w ≡ take n w ++ x ∷ [] = rw (add-one, take-suc w n 0 (simp length-drop (omega arith)), get_or-drop at s n 0) in
      ap plain e ∙ ap (λ (k : ℕ). eqb k 0) (count_append set (take n w) (x ∷ [])) ∙ go (count_escaped set (take n w)) (set x)
    where
      go : (k : ℕ) (t : Bool) → eqb (k + (cond t 1 0 + 0)) 0 ≡ (eqb k 0 && not t)
      go zero true = refl
      go zero false = refl
      go (suc k) t = rw (ne_eqb (suc k) 0 (λ z. omega arith)) (ne_eqb (suc k + (cond t 1 0 + 0)) 0 (λ z. omega arith))

  -- a window that has some
  pub plain_not : (at n : ℕ) (s : List ℕ) → plain (take n (drop at s)) ≡ false → plain s ≡ false
  plain_not at n s e =
      ne_eqb (count_escaped set s) 0 (λ z. eqb-false (count_escaped set (take n (drop at s))) 0 e (omega (arith, count_window at n s)))

  -- a window more that has none
  pub none_on : (i n : ℕ) (s : List ℕ) → count_escaped set (take i s) ≡ 0 → plain (take n (drop i s)) ≡ true
      → count_escaped set (take (i + n) s) ≡ 0
  none_on i n s z e =
      ap (count_escaped set) (take-add i n s)
      ∙ count_append set (take i s) (take n (drop i s))
      ∙ omega (arith, eqb-true (count_escaped set (take n (drop i s))) 0 e)

  -- the last window says the rest, where the bytes before it, and maybe some of it, have none
  pub plain_last : (i n : ℕ) (s : List ℕ) → n ≤ length s → length s - n ≤ i → count_escaped set (take i s) ≡ 0
      → plain (take n (drop (length s - n) s)) ≡ plain s
  plain_last i n s fits h z =
      let last = length s - n in
      let all : take n (drop last s) ≡ drop last s = take_all n (drop last s) (simp length-drop (omega arith)) in
      let e : count_escaped set (drop last s) ≡ count_escaped set s = omega (arith, count_cut last s, count_fewer last i s h) in
      ap plain all ∙ ap (λ (k : ℕ). eqb k 0) e

  -- two windows that meet or overlap
  pub plain_two : (n : ℕ) (s : List ℕ) → n ≤ length s → length s ≤ 2 * n
      → (plain (take n (drop 0 s)) && plain (take n (drop (length s - n) s))) ≡ plain s
  plain_two n s fits h = go (plain (take n s)) refl
    where
      go : (t : Bool) → plain (take n s) ≡ t → (t && plain (take n (drop (length s - n) s))) ≡ plain s
      go true e = plain_last n n s fits (omega arith) (eqb-true (count_escaped set (take n s)) 0 e)
      go false e = sym (plain_not 0 n s e)

-- a text that a larger set leaves plain stays as it is
pub plain_stays : (set less : ℕ → Bool) → ((x : ℕ) → less x ≡ true → set x ≡ true) → (s : List ℕ) → plain set s ≡ true
    → encoded less s ≡ s
plain_stays set less within s e =
    encoded_none less s (omega (arith, count_within set less within s, eqb-true (count_escaped set s) 0 e))

-- what columns 2 and 3 escape, tags and values do too
pub column_within : (x : ℕ) → escapes Column x ≡ true → escapes Attribute x ≡ true
unfolding escapes
column_within x e = rw e
