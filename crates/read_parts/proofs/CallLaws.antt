-- How a call ends, and what it means of the part. Assumes nothing.
use Prim.Native.Nat.{ℕ, suc, ◌+◌, ◌<◌}
use native.Mathlib.Omega.{arith}
use mathlib.Core.Path.{◌≡◌, refl, sym, ◌∙◌}
use mathlib.Core.Bool.{Bool, true, false, cond, not}
use mathlib.Core.List.{List, ◌∷◌, ◌++◌}
use lib.Dec.{eqb, ltb}
use lib.ListN.{length, take, drop, length-drop}
use lib.Seq.{take-length, length-take-le}
use borrow.Author.Tests.{ltb-false, le-ltb, eqb-true, eqb-false, eq-eqb, not-false}
use Rattle.base_lists.specs.Bytes.{Lacks, lf}
use Rattle.base_lists.proofs.BoolLaws.{by_test, or_left, or_right}
use Rattle.base_scan.specs.Find.{index, seek, is}
use Rattle.base_scan.proofs.FindLaws.{index_le, lacks_before, lacks_all, cut_at}
use Rattle.std.specs.Prelude.{Result, Ok, Err}
use Rattle.base_refusals.specs.declared.Refusal.{Refusal}
use Rattle.base_refusals.specs.declared.Refusal.TheVariants as refusal
use Rattle.read_parts.specs.declared.state.State.{State}
use Rattle.read_parts.specs.declared.Part.{Part}
use Rattle.read_parts.specs.declared.Came.TheVariants.{NoLine}
use Rattle.read_parts.specs.State.{hold_length, fresh, skipped, behind_blank, grown_hold, settled}
use Rattle.read_parts.specs.Inner.Store.{Ready, Grows, Settles}
use Rattle.read_parts.specs.Calls.{part, refuses, Leaves, fed, begun, unskipped, feed_at, take_part, TakesPart, ended, EndsParts}
use Rattle.read_parts.specs.Inner.Accept.{accepts}
use Rattle.read_parts.specs.Run.{bytes_taken, next_state}
use Rattle.read_parts.proofs.SkipLaws.{skipped_le}

-- ── 34 ────────────────────────────────────────────────────────────────────────────────────────

-- it is not given exactly where the hold has 65,536 bytes and no more are held
pub ready : (s : State) (d : List ℕ) → refuses s.held (length d) ≡ false → Ready s d
ready s d e =
    let over = ltb hold_length s.held in
    let fits = eqb (length d) hold_length in
    record {
      within = ltb-false hold_length s.held (or_left over (not fits) e);
      room = eqb-true (length d) hold_length (not-false fits (or_right over (not fits) e));
    }

pub passes : (held room : ℕ) {x : Unit} → accepts held room ≡ Ok x → refuses held room ≡ false
passes held room {x} = go (refuses held room)
  where
    go : (b : Bool) → ◌≡◌ {A = Result Unit Refusal} (cond b (Err refusal.Hold) (Ok tt)) (Ok x) → b ≡ false
    go true e = cc
    go false e = refl

pub accepted : {s : State} {d : List ℕ} → Ready s d → refuses s.held (length d) ≡ false
accepted {s} {d} q = rw (le-ltb hold_length s.held q.within, eq-eqb (length d) hold_length q.room)

module _ {s : State} {d hold : List ℕ} {answer : Part} where
  pub leaves_refused : refuses s.held (length d) ≡ true → Leaves s d answer hold d (Err refusal.Hold)
  leaves_refused e = record { result = rw e; left = rw e }

  pub leaves : {d' : List ℕ} {r : Result Part Refusal} → refuses s.held (length d) ≡ false → r ≡ Ok answer → d' ≡ hold
      → Leaves s d answer hold d' r
  leaves ok e f = record { result = e ∙ rw ok; left = f ∙ rw ok }

  pub leaves_means : {d' : List ℕ} {r : Result Part Refusal} → Ready s d → Leaves s d answer hold d' r → (r ≡ Ok answer) × (d' ≡ hold)
  leaves_means q p = (p.result ∙ rw (accepted q), p.left ∙ rw (accepted q))

  pub leaves_one : {d₁ d₂ : List ℕ} {r₁ r₂ : Result Part Refusal} → Leaves s d answer hold d₁ r₁ → Leaves s d answer hold d₂ r₂
      → (r₁ ≡ r₂) × (d₁ ≡ d₂)
  leaves_one p q = (p.result ∙ sym q.result, p.left ∙ sym q.left)

-- ── how a call ends ───────────────────────────────────────────────────────────────────────────

module _ {s g : State} {d d' : List ℕ} {r : Result Part Refusal} (ok : refuses s.held (length d) ≡ false) where
  pub takes : (p : List ℕ) {n k : ℕ} {b : State} {q : List ℕ} → n ≡ skipped s p → b ≡ behind_blank s n → q ≡ drop n p → k ≡ feed_at q
      → Grows b (take k q) d d' g → r ≡ Ok (cond (eqb k (length q)) (part NoLine (n + k) g) (fed g (n + k + 1))) → TakesPart s p d d' r
  unfolding take_part
  takes p e f h i grows j = leaves ok (j ∙ rw (grows.result, i, h, f, e)) (grows.left ∙ rw (i, h, f, e))

  pub ends : Settles s d d' g → r ≡ Ok (ended g) → EndsParts s d d' r
  ends settles f = leaves ok (f ∙ rw settles.result) settles.left

-- ── what it means ─────────────────────────────────────────────────────────────────────────────

-- blank lines are passed; then no line feed is left, and all of the part is taken; or one ends the line behind a
pub data Means (s : State) (p d d' : List ℕ) : Result Part Refusal → Type 0 where
  more : {g : State} → Lacks lf (unskipped s p) → Grows (begun s p) (unskipped s p) d d' g → Means s p d d' (Ok (part NoLine (length p) g))
  feed : {g : State} {k : ℕ} (a b : List ℕ) → unskipped s p ≡ a ++ lf ∷ b → skipped s p + length a ≡ k → Lacks lf a
      → Grows (begun s p) a d d' g → Means s p d d' (Ok (fed g (k + 1)))

pub takes_means : {s : State} {p d d' : List ℕ} {r : Result Part Refusal} → Ready s d → TakesPart s p d d' r → Means s p d d' r
unfolding take_part seek
takes_means {s} {p} {d} {d'} {r} q t =
    let m = leaves_means q t in
    rw m.0 (go (index (is lf) (unskipped s p)) refl m.1)
  where
    go : (k : ℕ) → k ≡ index (is lf) (unskipped s p) → d' ≡ grown_hold (begun s p) (take k (unskipped s p)) d
        → Means s p d d' (Ok (take_part s p))
    go k e l =
        let rest = unskipped s p in
        rw (← e)
        (by_test (λ (x : Part). Means s p d d' (Ok x)) (eqb k (length rest))
        (λ all.
        let n = eqb-true k (length rest) all in
        let whole : skipped s p + k ≡ length p = omega (arith, length-drop (skipped s p) p, skipped_le s p) in
        rw (whole, n, take-length rest)
        (more (lacks_all lf rest (sym e ∙ n)) (record { result = refl; left = rw (n, take-length rest) at l })))
        (λ some.
        let h : index (is lf) rest < length rest = omega (arith, index_le (is lf) rest, eqb-false k (length rest) some) in
        feed (take k rest) (drop (suc k) rest) (rw e (cut_at lf rest h)) (omega (arith, length-take-le k rest (omega arith)))
        (rw e (lacks_before lf rest))
        (record { result = refl; left = l })))

-- what waits, stays, and the line ends
pub ends_means : {s : State} {d d' : List ℕ} {r : Result Part Refusal} → Ready s d → EndsParts s d d' r
    → (r ≡ Ok (ended (settled s))) × Settles s d d' (settled s)
ends_means q e = let m = leaves_means q e in (m.0, record { result = refl; left = m.1 })

-- behind a line the state is fresh, and its bytes are taken
pub fed_next : (s g : State) (k : ℕ) → (next_state s (Ok (fed g k)) ≡ fresh) × (bytes_taken (Ok (fed g k)) ≡ k)
fed_next s g k = (refl, refl)
