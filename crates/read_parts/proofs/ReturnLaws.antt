-- Laws of a carriage return at the end of bytes: bytes are what `chomped` leaves and what waits; and what is left of two pieces is what is
-- left of the first, and then of what waits there with the second. Assumes nothing.
use Prim.Native.Nat.{ℕ}
use mathlib.Core.Path.{◌≡◌, refl, sym, ap, ◌∙◌, subst}
use mathlib.Core.Logic.{◌≢◌}
use mathlib.Core.Bool.{Bool, true, false, cond}
use mathlib.Core.List.{List, [], ◌∷◌, ◌++◌, append_assoc, append-nil}
use lib.Dec.{eqb}
use borrow.Author.Tests.{eqb-true, eq-eqb, ne_eqb}
use Rattle.base_lists.specs.Bytes.{cr}
use Rattle.read_lines.specs.Lines.{chomped}
use Rattle.read_parts.specs.declared.state.Tail.{Tail}
use Rattle.read_parts.specs.declared.state.Tail.TheVariants.{Fits, Waits}
use Rattle.read_parts.specs.State.{is_long, ending, waiting}

-- what stays of bytes, and what comes of their end
abbrev pub Leave : List ℕ → List ℕ → Tail → Type 0
Leave bytes stay tail = (chomped bytes ≡ stay) × (ending bytes ≡ tail)

-- they leave a tail that is not long
pub ending_short : (u : List ℕ) → is_long (ending u) ≡ false
unfolding ending
ending_short [] = refl
ending_short (x ∷ []) = go (eqb x cr)
  where
    go : (t : Bool) → is_long (cond t Waits Fits) ≡ false
    go true = refl
    go false = refl
ending_short (x ∷ y ∷ u) = ending_short (y ∷ u)

-- what stays, and what waits, is all
pub chomped_waiting : (u : List ℕ) → chomped u ++ waiting (ending u) ≡ u
unfolding chomped ending
chomped_waiting [] = refl
chomped_waiting (x ∷ []) = go (eqb x cr) refl
  where
    go : (t : Bool) → eqb x cr ≡ t → cond t [] (x ∷ []) ++ waiting (cond t Waits Fits) ≡ x ∷ []
    go true e = rw (eqb-true x cr e)
    go false e = refl
chomped_waiting (x ∷ y ∷ u) = ap (λ (l : List ℕ). x ∷ l) (chomped_waiting (y ∷ u))

-- ── one piece, and another ────────────────────────────────────────────────────────────────────

no_return : (x : ℕ) (b : List ℕ) → eqb x cr ≡ false → Leave (x ∷ b) (x ∷ chomped b) (ending b)
unfolding chomped ending
no_return x [] e = (rw e, rw e)
no_return x (y ∷ b) e = (refl, refl)

pub leave_append : (u b : List ℕ) → Leave (u ++ b) (chomped u ++ chomped (waiting (ending u) ++ b)) (ending (waiting (ending u) ++ b))
unfolding chomped ending
leave_append [] b = (refl, refl)
leave_append (x ∷ []) b = go (eqb x cr) refl
  where
    go : (t : Bool) → eqb x cr ≡ t
        → Leave (x ∷ b) (cond t [] (x ∷ []) ++ chomped (waiting (cond t Waits Fits) ++ b)) (ending (waiting (cond t Waits Fits) ++ b))
    go true e = subst (λ (y : ℕ). Leave (y ∷ b) (chomped (cr ∷ b)) (ending (cr ∷ b))) (sym (eqb-true x cr e)) (refl, refl)
    go false e = no_return x b e
leave_append (x ∷ y ∷ u) b = let p = leave_append (y ∷ u) b in (ap (λ (l : List ℕ). x ∷ l) p.0, p.1)

-- ── by the last byte ──────────────────────────────────────────────────────────────────────────

leave_last : (a : List ℕ) (x : ℕ) → Leave (a ++ (x ∷ [])) (a ++ cond (eqb x cr) [] (x ∷ [])) (cond (eqb x cr) Waits Fits)
unfolding chomped ending
leave_last [] x = (refl, refl)
leave_last (y ∷ []) x = (refl, refl)
leave_last (y ∷ z ∷ a) x = let p = leave_last (z ∷ a) x in (ap (λ (l : List ℕ). y ∷ l) p.0, p.1)

-- bytes w, and behind them a text whose last byte is x
module _ (w : List ℕ) {s : List ℕ} (before : List ℕ) (x : ℕ) (e : s ≡ before ++ x ∷ []) where
  split : (w ++ before) ++ (x ∷ []) ≡ w ++ s
  split = append_assoc w before (x ∷ []) ∙ ap (λ (l : List ℕ). w ++ l) (sym e)

  pub returned : x ≡ cr → Leave (w ++ s) (w ++ before) Waits
  returned f =
      let p = leave_last (w ++ before) x in
      let r = eq-eqb x cr f in
      (ap chomped (sym split) ∙ p.0 ∙ rw r (append-nil (w ++ before)), ap ending (sym split) ∙ p.1 ∙ rw r)

  pub plain : x ≢ cr → Leave (w ++ s) (w ++ s) Fits
  plain h =
      let p = leave_last (w ++ before) x in
      let r = ne_eqb x cr h in
      (ap chomped (sym split) ∙ p.0 ∙ rw r split, ap ending (sym split) ∙ p.1 ∙ rw r)
