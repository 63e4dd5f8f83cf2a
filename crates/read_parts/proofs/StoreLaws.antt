-- Laws of bytes that stay, and of bytes that come: none change nothing, and two steps are one, for the bytes of both. Assumes nothing.
use Prim.Native.Nat.{ℕ, ◌+◌, ◌≤◌, ◌<◌}
use native.Mathlib.Omega.{arith}
use native.Mathlib.Nat.{add-zero, add_assoc}
use mathlib.Core.Path.{◌≡◌, refl, sym, ap, ◌∙◌, subst}
use mathlib.Core.Bool.{Bool, true, false, cond}
use mathlib.Core.List.{List, [], ◌∷◌, ◌++◌, append_assoc}
use lib.Dec.{eqb, ltb}
use lib.ListN.{length, length-append}
use borrow.Author.Tests.{ltb-true, ltb-false, lt-ltb, le-ltb}
use Rattle.base_lists.proofs.BoolLaws.{by_test}
use Rattle.base_buffer.specs.Laid.{laid, Lays}
use Rattle.base_buffer.proofs.LaidLaws.{length_laid, laid_append, laid_past}
use Rattle.read_lines.specs.Lines.{chomped}
use Rattle.read_parts.specs.declared.state.Tail.{Tail}
use Rattle.read_parts.specs.declared.state.Tail.TheVariants.{Fits, Waits, Long}
use Rattle.read_parts.specs.declared.state.State.{State}
use Rattle.read_parts.specs.State.{hold_length, holds, is_long, ending, waiting, new, behind_blank, stored, stored_hold}
use Rattle.read_parts.specs.Inner.Store.{Ready, Stores, Grows, Settles}
use Rattle.read_parts.proofs.ReturnLaws.{ending_short, chomped_waiting, leave_append}

-- ── one step ──────────────────────────────────────────────────────────────────────────────────

module _ (s : State) (bytes : List ℕ) (t : Tail) where
  -- the line is too long already
  stored_was : is_long s.tail ≡ true → stored s bytes t ≡ s
  unfolding stored
  stored_was e = rw e

  pub stored_fits : is_long s.tail ≡ false → s.held + length bytes ≤ hold_length → stored s bytes t ≡ holds (s.held + length bytes) t
  unfolding stored
  stored_fits e h = rw (e, le-ltb hold_length (s.held + length bytes) h)

  pub stored_over : is_long s.tail ≡ false → hold_length < s.held + length bytes → stored s bytes t ≡ holds hold_length Long
  unfolding stored
  stored_over e h = rw (e, lt-ltb hold_length (s.held + length bytes) h)

  -- which of the three it is
  pub data Way : State → Type 0 where
    was : is_long s.tail ≡ true → Way s
    over : is_long s.tail ≡ false → hold_length < s.held + length bytes → Way (holds hold_length Long)
    fits : is_long s.tail ≡ false → s.held + length bytes ≤ hold_length → Way (holds (s.held + length bytes) t)

  pub way : Way (stored s bytes t)
  unfolding stored
  way = go (is_long s.tail) refl (ltb hold_length (s.held + length bytes)) refl
    where
      go : (b : Bool) → is_long s.tail ≡ b → (o : Bool) → ltb hold_length (s.held + length bytes) ≡ o → Way (stored s bytes t)
      go true e o f = rw (stored_was e) (was e)
      go false e true f = let h = ltb-true hold_length (s.held + length bytes) f in rw (stored_over e h) (over e h)
      go false e false f = let h = ltb-false hold_length (s.held + length bytes) f in rw (stored_fits e h) (fits e h)

-- too long already: nothing is stored
pub stores_long : (s : State) (bytes : List ℕ) (t : Tail) (d : List ℕ) → is_long s.tail ≡ true → Stores s bytes t d d s
unfolding stored_hold
stores_long s bytes t d e = record { result = sym (stored_was s bytes t e); left = rw e }

-- nothing more: nothing changes
pub stores_none : (s : State) (d : List ℕ) {t : Tail} → s.tail ≡ t → s.held ≤ hold_length → Stores s [] t d d s
unfolding stored stored_hold laid
stores_none s d {t} e h = rw (← e) (go s.tail)
  where
    go : (u : Tail) → Stores (holds s.held u) [] u d d (holds s.held u)
    go Fits = record { result = rw (add-zero, le-ltb hold_length s.held h); left = refl }
    go Waits = record { result = rw (add-zero, le-ltb hold_length s.held h); left = refl }
    go Long = record { result = refl; left = refl }

-- the same, where what stays is said otherwise
pub stores_as : {s r : State} {m m' d d' : List ℕ} {t t' : Tail} → m' ≡ m → t' ≡ t → Stores s m t d d' r → Stores s m' t' d d' r
stores_as e f p = rw (e, f) p

-- no bytes come
pub grows_none : (s : State) (bytes d : List ℕ) → s.held ≤ hold_length → length bytes ≡ 0 → Grows s bytes d d s
unfolding chomped ending
grows_none s (x ∷ bytes) d h e = absurd (omega arith)
grows_none s [] d h e = go s.tail
  where
    go : (u : Tail) → Grows (holds s.held u) [] d d (holds s.held u)
    go Fits = stores_none (holds s.held Fits) d refl h
    go Waits = stores_none (holds s.held Waits) d refl h
    go Long = stores_long (holds s.held Long) [] Fits d refl

-- what is left of a state and a hold that pass 34 passes it
pub stores_ready : {s r : State} {bytes d d' : List ℕ} {t : Tail} → Ready s d → Stores s bytes t d d' r → Ready r d'
unfolding stored_hold
stores_ready {s} {r} {bytes} {d} {d'} {t} q p =
    record { within = rw p.result (held (way s bytes t)); room = ap length p.left ∙ room (is_long s.tail) }
  where
    held : {x : State} → Way s bytes t x → x.held ≤ hold_length
    held (was e) = q.within
    held (over e h) = omega arith
    held (fits e h) = h

    room : (b : Bool) → length (cond b d (laid d s.held bytes)) ≡ hold_length
    room true = q.room
    room false = length_laid bytes d s.held ∙ q.room

-- and so does a state behind blank lines
pub behind_ready : {s : State} {d : List ℕ} (n : ℕ) → Ready s d → Ready (behind_blank s n) d
unfolding behind_blank
behind_ready {s} {d} n q =
    by_test (λ (x : State). Ready x d) (eqb n 0) (λ e. q) (λ e. record { within = omega arith; room = q.room })

-- a copy of as much as there is room for
module _ {s : State} {bytes d d' : List ℕ} {n : ℕ} (ready : Ready s d) (short : is_long s.tail ≡ false) (copy : Lays bytes d s.held d' n) where
  lays_kept : d' ≡ stored_hold s bytes d
  unfolding stored_hold
  lays_kept = copy.left ∙ rw short

  pub lays_fits : {t : Tail} → s.held + length bytes ≤ hold_length → Stores s bytes t d d' (holds n t)
  lays_fits {t} h =
      let e : n ≡ s.held + length bytes = omega arith in record { result = rw e (sym (stored_fits s bytes t short h)); left = lays_kept }

  pub lays_over : {t : Tail} → hold_length < s.held + length bytes → Stores s bytes t d d' (holds n Long)
  lays_over {t} h = let e : n ≡ hold_length = omega arith in record { result = rw e (sym (stored_over s bytes t short h)); left = lays_kept }

-- ── one after another ─────────────────────────────────────────────────────────────────────────

-- two steps are one, for what stays of both; the second may go by the tail that the first left
pub stores_then : {s g r : State} {m d d₁ d₂ : List ℕ} {t : Tail} (more : Tail → List ℕ) (tail : Tail → Tail) → is_long t ≡ false → Ready s d
    → Stores s m t d d₁ g → Stores g (more g.tail) (tail g.tail) d₁ d₂ r → Stores s (m ++ more t) (tail t) d d₂ r
unfolding stored stored_hold
stores_then {s} {g} {r} {m} {d} {d₁} {d₂} {t} more tail short ready p q =
    go (way s m t) (subst (λ (x : State). Stores x (more x.tail) (tail x.tail) d₁ d₂ r) p.result q)
  where
    go : {x : State} → Way s m t x → Stores x (more x.tail) (tail x.tail) d₁ d₂ r → Stores s (m ++ more t) (tail t) d d₂ r
    go (was e) q = record { result = q.result ∙ rw e; left = q.left ∙ rw e (p.left ∙ rw e) }
    go (over e h) q =
        record {
          result = q.result ∙ sym (stored_over s (m ++ more t) (tail t) e (simp length-append (omega arith)));
          left =
              q.left
              ∙ rw (p.left, e)
              (sym (laid_append m (more t) d s.held
              ∙ laid_past (more t) (laid d s.held m) (s.held + length m) (rw (length_laid m d s.held) (omega arith))));
        }
    go (fits e h) q =
        record {
          result = q.result ∙ rw (short, e, length-append, add_assoc);
          left = q.left ∙ rw (short, p.left, e) (sym (laid_append m (more t) d s.held));
        }

-- bytes that come in two parts come as if in one
pub grows_then : {s g r : State} {d d₁ d₂ : List ℕ} (a b : List ℕ) → Ready s d → Grows s a d d₁ g → Grows g b d₁ d₂ r → Grows s (a ++ b) d d₂ r
grows_then {s} a b ready p q =
    let e = leave_append (new s a) b in
    rw (← append_assoc (waiting s.tail) a b)
    (stores_as e.0 e.1
    (stores_then (λ u. chomped (waiting u ++ b)) (λ u. ending (waiting u ++ b)) (ending_short (new s a)) ready p q))

-- and what waits behind them, stays
pub settles_then : {s g r : State} {d d₁ d₂ : List ℕ} (a : List ℕ) → Ready s d → Grows s a d d₁ g → Settles g d₁ d₂ r
    → Stores s (new s a) Fits d d₂ r
settles_then {s} a ready p q = rw (← chomped_waiting (new s a)) (stores_then waiting (λ u. Fits) (ending_short (new s a)) ready p q)
