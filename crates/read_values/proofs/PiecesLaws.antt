-- Laws of `pieces` and `joined`: joined pieces are cut where they were joined, and the pieces from a cursor on. Assumes nothing.
use Prim.Native.Nat.{ℕ, zero, suc, ◌+◌, ◌-◌, ◌≤◌}
use native.Mathlib.Omega.{arith}
use native.Mathlib.Numerals.{add-one}
use native.Mathlib.Nat.{eq-or-lt_of_le, sub-zero, suc-sub-suc, suc-add}
use mathlib.Core.Path.{◌≡◌, refl, sym, ap, ◌∙◌}
use mathlib.Core.Logic.{⊎_elim}
use mathlib.Core.Bool.{Bool, true, false, cond}
use mathlib.Core.List.{List, [], ◌∷◌, ◌++◌, append_assoc, append-nil}
use lib.Dec.{eqb, eqb-suc-suc}
use lib.ListN.{length, take, drop}
use lib.Seq.{take-length, take-nil}
use borrow.Author.Tests.{eq-eqb, ne_eqb}
use Rattle.base_lists.specs.Bytes.{Every, Lacks}
use Rattle.base_lists.proofs.EveryLaws.{every_append}
use Rattle.base_scan.specs.Find.{index, seek, is, found}
use Rattle.base_scan.specs.Part.{part}
use Rattle.base_scan.proofs.FindLaws.{index_le, lacks_before, cut_at, lacks_all}
use Rattle.read_values.specs.Pieces.{pieces_after, pieces, prefixed, joined}

-- ── pieces joined ─────────────────────────────────────────────────────────────────────────────

-- bytes that are no separator belong to the piece
pub pieces_begin : (c : ℕ) (p piece s : List ℕ) → Lacks c p → pieces_after c piece (p ++ s) ≡ pieces_after c (piece ++ p) s
unfolding pieces_after
pieces_begin c [] piece s h = rw append-nil
pieces_begin c (x ∷ p) piece s h = rw (ne_eqb x c h.0, pieces_begin c p (piece ++ (x ∷ [])) s h.1, append_assoc)

-- a text without the separator is one piece
pub pieces_whole : (c : ℕ) (s : List ℕ) → Lacks c s → pieces c s ≡ s ∷ []
unfolding pieces_after
pieces_whole c s h = ap (pieces c) (sym (append-nil s)) ∙ pieces_begin c s [] [] h

pieces_prefixed : (c : ℕ) (piece : List ℕ) (ps : List (List ℕ)) → Every (Lacks c) ps → pieces_after c piece (prefixed c ps) ≡ piece ∷ ps
unfolding pieces_after prefixed
pieces_prefixed c piece [] h = refl
pieces_prefixed c piece (p ∷ ps) h = rw (eq-eqb c c refl, pieces_begin c p [] (prefixed c ps) h.0, pieces_prefixed c p ps h.1)

-- the pieces of joined pieces that lack the separator are the pieces
pub pieces_joined : (c : ℕ) (p : List ℕ) (ps : List (List ℕ)) → Every (Lacks c) (p ∷ ps) → pieces c (joined c (p ∷ ps)) ≡ p ∷ ps
unfolding joined
pieces_joined c p ps h = pieces_begin c p [] (prefixed c ps) h.0 ∙ pieces_prefixed c p ps h.1

module _ (P : ℕ → Type 0) (c : ℕ) (separator : P c) where
  every_prefixed : (ps : List (List ℕ)) → Every (Every P) ps → Every P (prefixed c ps)
  unfolding prefixed
  every_prefixed [] h = tt
  every_prefixed (p ∷ ps) h = (separator, every_append P p (prefixed c ps) h.0 (every_prefixed ps h.1))

  -- what holds of each byte of the pieces and of the separator holds of each byte of the joined text
  pub every_joined : (ps : List (List ℕ)) → Every (Every P) ps → Every P (joined c ps)
  unfolding joined
  every_joined [] h = tt
  every_joined (p ∷ ps) h = every_append P p (prefixed c ps) h.0 (every_prefixed ps h.1)

-- ── pieces from a cursor on ───────────────────────────────────────────────────────────────────

-- the first piece, and those behind the separator, if there is one
pieces_first : (c : ℕ) (s : List ℕ)
    → let k = index (is c) s in pieces c s ≡ take k s ∷ cond (eqb k (length s)) [] (pieces c (drop (suc k) s))
unfolding pieces_after
pieces_first c s =
    let k = index (is c) s in
    ⊎_elim
    (λ e. ap (pieces c) (sym (append-nil s)) ∙ pieces_begin c s [] [] (lacks_all c s e) ∙ rw (eq-eqb k (length s) e, e, take-length s))
    (λ h. ap (pieces c) (cut_at c s h) ∙ pieces_begin c (take k s) [] (c ∷ drop (suc k) s) (lacks_before c s) ∙ rw (eq-eqb c c refl, ne_eqb k (length s) (omega arith)))
    (eq-or-lt_of_le (index_le (is c) s))

-- the piece at a cursor, and those behind it: none where it runs to the end
pub pieces_next : (c at : ℕ) (s : List ℕ)
    → let e = found c at s in pieces c (drop at s) ≡ part at e s ∷ cond (eqb e (length s)) [] (pieces c (drop (e + 1) s))
unfolding pieces_after seek
pieces_next c zero s = rw (add-one, sub-zero) (pieces_first c s)
pieces_next c (suc at) [] = rw (take-nil (0 - suc at))
pieces_next c (suc at) (x ∷ s) = rw (suc-sub-suc, suc-add, eqb-suc-suc) (pieces_next c at s)

-- there is at most one piece more than there are bytes
pieces_few_after : (c : ℕ) (piece s : List ℕ) → length (pieces_after c piece s) ≤ suc (length s)
unfolding pieces_after
pieces_few_after c piece [] = omega arith
pieces_few_after c piece (x ∷ s) = go (eqb x c) (pieces_few_after c [] s) (pieces_few_after c (piece ++ (x ∷ [])) s)
  where
    go : (t : Bool) → length (pieces_after c [] s) ≤ suc (length s) → length (pieces_after c (piece ++ (x ∷ [])) s) ≤ suc (length s)
        → length (cond t (piece ∷ pieces_after c [] s) (pieces_after c (piece ++ (x ∷ [])) s)) ≤ suc (suc (length s))
    go true h k = omega arith
    go false h k = omega arith

pub pieces_few : (c : ℕ) (s : List ℕ) → length (pieces c s) ≤ suc (length s)
pieces_few c s = pieces_few_after c [] s
