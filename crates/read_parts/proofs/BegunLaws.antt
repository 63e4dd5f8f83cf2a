-- What state and hold say of the line that is begun: they are as if it had come in one part. Bytes of the line keep that; a line feed
-- ends it, and so does the end call. Assumes nothing.
use Prim.Native.Nat.{ℕ, suc, ◌+◌, ◌≤◌, ◌<◌}
use native.Mathlib.Omega.{arith}
use native.Mathlib.Nat.{zero-add}
use mathlib.Core.Path.{◌≡◌, refl, sym, ap, ◌∙◌}
use mathlib.Core.Bool.{false}
use mathlib.Core.List.{List, [], ◌∷◌, ◌++◌, map, append_assoc}
use lib.ListN.{length, take, drop, length-append}
use lib.Seq.{take-append_seam}
use borrow.Author.Tests.{le-leb, lt-leb, ne_eqb}
use Rattle.base_lists.specs.Bytes.{Lacks, lf}
use Rattle.base_buffer.proofs.LaidLaws.{laid_start}
use Rattle.read_lines.specs.Blank.{blank_run}
use Rattle.read_lines.specs.Lines.{chomped, unless_blank, lines_after}
use Rattle.read_lines.proofs.BlankLaws.{lines_past, run_passed, has_byte}
use Rattle.read_lines.proofs.LinesLaws.{lines_begin}
use Rattle.read_parts.specs.declared.state.Tail.{Tail}
use Rattle.read_parts.specs.declared.state.Tail.TheVariants.{Fits, Waits, Long}
use Rattle.read_parts.specs.declared.state.State.{State}
use Rattle.read_parts.specs.declared.Part.{Part}
use Rattle.std.specs.Prelude.{Result, Ok}
use Rattle.base_refusals.specs.declared.Refusal.{Refusal}
use Rattle.read_parts.specs.State.{hold_length, holds, fresh, is_long, is_blank, waiting, ending, skipped, behind_blank, stored_hold}
use Rattle.read_parts.specs.Inner.Store.{Ready, Stores, Grows}
use Rattle.read_parts.specs.Calls.{fed, ended, EndsParts}
use Rattle.read_parts.specs.Run.{line, refusal, shown, told}
use Rattle.read_parts.proofs.ReturnLaws.{ending_short, chomped_waiting, leave_append}
use Rattle.read_parts.proofs.SkipLaws.{skips_none, Skips, stays, goes, skips}
use Rattle.read_parts.proofs.StoreLaws.{Way, was, over, fits, way, stores_ready, grows_none, grows_then, settles_then}
use Rattle.read_parts.proofs.CallLaws.{ends_means}

-- since the last line feed l was taken, and the hold was `before` then: state and hold are as if l had come in one part. So of l all that
-- is sure to stay stands in the hold, as far as there is room, and then what it had before
pub record Begun (l before : List ℕ) (s : State) (d : List ℕ) : Type 0 where
  pub ready : Ready fresh before
  pub grew : Grows fresh l before d s

-- no line is begun
pub begun_fresh : {d : List ℕ} → length d ≡ hold_length → Begun [] d fresh d
begun_fresh {d} e = record { ready = record { within = omega arith; room = e }; grew = grows_none fresh [] d (omega arith) refl }

module _ {l before d : List ℕ} {s : State} (begun : Begun l before s d) where
  -- 34 is not given
  pub begun_ready : Ready s d
  begun_ready = stores_ready begun.ready begun.grew

  -- bytes of the line come
  pub begun_grows : (a : List ℕ) {d' : List ℕ} {g : State} → Grows s a d d' g → Begun (l ++ a) before g d'
  begun_grows a grows = record { ready = begun.ready; grew = grows_then l a begun.ready begun.grew grows }

-- ── blank lines ───────────────────────────────────────────────────────────────────────────────

-- what is begun is blank so far, and all of it waits; or it has a byte
data SoFar (l : List ℕ) : State → Type 0 where
  blank : (t : Tail) → is_long t ≡ false → l ≡ waiting t → SoFar l (holds 0 t)
  some : (s : State) → is_blank s ≡ false → 0 < length (chomped l) → SoFar l s

begun_so_far : {l before d : List ℕ} {s : State} → Begun l before s d → SoFar l s
begun_so_far {l} {before} {d} {s} begun = rw begun.grew.result (go (chomped l) refl (way fresh (chomped l) (ending l)))
  where
    go : (m : List ℕ) → chomped l ≡ m → {x : State} → Way fresh m (ending l) x → SoFar l x
    go m f (was e) = let z : ◌≡◌ {A = ℕ} 0 1 = cc in absurd (omega arith)
    go m f (over e h) = some (holds hold_length Long) refl (rw f (omega arith))
    go [] f (fits e h) = blank (ending l) (ending_short l) (sym (chomped_waiting l) ∙ rw f)
    go (x ∷ m) f (fits e h) =
        some (holds (0 + suc (length m)) (ending l)) (rw (ne_eqb (0 + suc (length m)) 0 (λ z. omega arith))) (rw f (omega arith))

-- what is begun behind the blank lines of a part p, of which r is left: it ends with a byte, and the lines are the same from there on
pub record Past (l p d : List ℕ) (s : State) (r : List ℕ) : Type 0 where
  pub line : List ℕ
  pub before : List ℕ
  pub begins : Begun line before s d
  pub same : (z : List ℕ) → lines_after l (p ++ z) ≡ lines_after line (r ++ z)
  pub ends : (a b : List ℕ) → r ≡ a ++ lf ∷ b → 0 < length (chomped (line ++ a))

-- a line that has a byte has one with more of it
grows_byte : (l a : List ℕ) → 0 < length (chomped l) → 0 < length (chomped (l ++ a))
grows_byte l a h = rw (leave_append l a).0 (simp length-append (omega arith))

-- none is there
past_none : {l before p d : List ℕ} {s : State} → Begun l before s d → ((a b : List ℕ) → p ≡ a ++ lf ∷ b → 0 < length (chomped (l ++ a)))
    → Past l p d s p
past_none {l} {before} begun ends = record { line = l; before = before; begins = begun; same = λ z. refl; ends = ends }

-- what waits is no line feed
waiting_lacks : (t : Tail) → Lacks lf (waiting t)
waiting_lacks Fits = tt
waiting_lacks Waits = (λ e. omega arith, tt)
waiting_lacks Long = tt

past_some : (l p d : List ℕ) (n : ℕ) → length d ≡ hold_length → Lacks lf l → drop n p ≡ drop (blank_run (l ++ p)) (l ++ p)
    → Past l p d fresh (drop n p)
past_some l p d n room lacks e =
    record {
      line = [];
      before = d;
      begins = begun_fresh room;
      same = λ z. sym (lines_begin l (p ++ z) [] lacks) ∙ rw (← append_assoc l p z, e) (lines_past (l ++ p) z);
      ends = λ a b f. has_byte a b (rw (← f, e) (run_passed (l ++ p)));
    }

pub begun_past : {l before d : List ℕ} {s : State} → Begun l before s d → (p : List ℕ)
    → Past l p d (behind_blank s (skipped s p)) (drop (skipped s p) p)
unfolding behind_blank
begun_past {l} {before} {d} {s} begun p = go (begun_so_far begun) begun
  where
    run : (t : Tail) (short : is_long t ≡ false) → l ≡ waiting t → Begun l before (holds 0 t) d → Skips t short p
        → Past l p d (behind_blank (holds 0 t) (skipped (holds 0 t) p)) (drop (skipped (holds 0 t) p) p)
    run t short w begun (stays e z) = rw e (past_none begun (λ a b f. has_byte (l ++ a) b (rw (append_assoc, ← f, w) z)))
    run t short w begun (goes h e) =
        rw (ne_eqb (skipped (holds 0 t) p) 0 (λ z. omega arith))
        (past_some l p d (skipped (holds 0 t) p) (begun_ready begun).room (rw w (waiting_lacks t)) (rw w e))

    go : {x : State} → SoFar l x → Begun l before x d → Past l p d (behind_blank x (skipped x p)) (drop (skipped x p) p)
    go (some x e h) begun = rw (skips_none x p e) (past_none begun (λ a b f. grows_byte l a h))
    go (blank t short w) begun = run t short w begun (skips t short p)

-- ── how a line ends ───────────────────────────────────────────────────────────────────────────

-- l stands at the hold's start, or is too long
data Stands (l d : List ℕ) (t : Tail) : State → Type 0 where
  all : length l ≤ hold_length → take (length l) d ≡ l → Stands l d t (holds (length l) t)
  long : hold_length < length l → Stands l d t (holds hold_length Long)

stands : {l before d : List ℕ} {t : Tail} {s : State} → length before ≡ hold_length → Stores fresh l t before d s → Stands l d t s
unfolding stored_hold
stands {l} {before} {d} {t} {s} room p = rw p.result (go (way fresh l t))
  where
    go : {x : State} → Way fresh l t x → Stands l d t x
    go (was e) = let z : ◌≡◌ {A = ℕ} 0 1 = cc in absurd (omega arith)
    go (over e h) = long (omega arith)
    go (fits e h) =
        rw zero-add
        (all (omega arith) (ap (take (length l)) (p.left ∙ laid_start l before (omega arith)) ∙ take-append_seam l (drop (length l) before)))

-- what is told of it
told_all : (l d : List ℕ) → length l ≤ hold_length → take (length l) d ≡ l → line (take (length l) d) ∷ [] ≡ shown l ∷ []
unfolding shown
told_all l d h e = rw (e, le-leb (length l) hold_length h)

told_long : (l : List ℕ) → hold_length < length l → refusal 25 ∷ [] ≡ shown l ∷ []
unfolding shown
told_long l h = rw (lt-leb (length l) hold_length h)

fed_tells : (l d : List ℕ) {t : Tail} {s : State} (k : ℕ) → is_long t ≡ false → Stands l d t s → told (Ok (fed s k)) d ≡ shown l ∷ []
fed_tells l d k short (all h e) = rw short (told_all l d h e)
fed_tells l d k short (long h) = told_long l h

-- a line feed comes
pub begun_fed : {l before d : List ℕ} {s : State} (k : ℕ) → Begun l before s d → told (Ok (fed s k)) d ≡ shown (chomped l) ∷ []
begun_fed {l} {before} {d} k begun = fed_tells (chomped l) d k (ending_short l) (stands begun.ready.room begun.grew)

-- the end call comes
ended_tells : (l d : List ℕ) {s : State} → Stands l d Fits s → told (Ok (ended s)) d ≡ map shown (lines_after l [])
unfolding lines_after unless_blank
ended_tells [] d (all h e) = refl
ended_tells [] d (long h) = absurd (omega arith)
ended_tells (x ∷ l) d (all h e) = rw (ne_eqb (suc (length l)) 0 (λ z. omega arith)) (told_all (x ∷ l) d h e)
ended_tells (x ∷ l) d (long h) = told_long (x ∷ l) h

pub begun_ends : {l before d d' : List ℕ} {s : State} {r : Result Part Refusal} → Begun l before s d → EndsParts s d d' r
    → told r d' ≡ map shown (lines_after l [])
begun_ends {l} {before} {d} {d'} {s} begun p =
    let q = ends_means (begun_ready begun) p in
    rw q.0 (ended_tells l d' (stands begun.ready.room (settles_then l begun.ready begun.grew q.1)))
