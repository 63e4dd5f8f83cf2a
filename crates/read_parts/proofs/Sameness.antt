-- Calls in a row, however the text is cut: what they tell is the lines of the text in order, each of more than 65,536 bytes as 25.
-- Assumes nothing.
use Prim.Native.Nat.{ℕ, zero, suc, ◌+◌, ◌≤◌, ◌<◌}
use native.Mathlib.Omega.{arith}
use mathlib.Core.Path.{◌≡◌, refl, sym, ap, ◌∙◌}
use mathlib.Core.Logic.{◌≢◌}
use mathlib.Core.Bool.{false}
use mathlib.Core.List.{List, [], ◌∷◌, ◌++◌, map, append_assoc}
use lib.Dec.{leb}
use lib.ListN.{length, take, drop, length-drop, take-append-drop}
use lib.Seq.{drop-drop, drop-append_seam, drop-append-le, drop-append-add}
use borrow.Author.Tests.{le-leb}
use Rattle.base_lists.specs.Bytes.{Every, lf}
use Rattle.base_scan.specs.Find.{index, seek}
use Rattle.base_lists.proofs.BoolLaws.{by_test}
use Rattle.read_lines.specs.Lines.{lines_after, lines}
use Rattle.read_lines.proofs.LinesLaws.{lines_begin, lines_fed}
use Rattle.std.specs.Prelude.{Result, Ok}
use Rattle.base_refusals.specs.declared.Refusal.{Refusal}
use Rattle.read_parts.specs.declared.state.State.{State}
use Rattle.read_parts.specs.declared.Part.{Part}
use Rattle.read_parts.specs.declared.Came.TheVariants.{NoLine}
use Rattle.read_parts.specs.State.{hold_length, fresh, is_blank, skipped, behind_blank, grown_hold, settled, settled_hold}
use Rattle.read_parts.specs.Inner.Store.{Ready}
use Rattle.read_parts.specs.Calls.{part, refuses, begun, unskipped, of_line, take_part, TakesPart, ended, EndsParts}
use Rattle.read_parts.specs.Run.{Event, line, refusal, shown, told, bytes_taken, next_state, Run, call, end}
use Rattle.read_parts.specs.Sameness.{Sameness, OneCall}
use Rattle.read_parts.proofs.SkipLaws.{skipped_le}
use Rattle.read_parts.proofs.StoreLaws.{behind_ready, stores_ready, grows_none}
use Rattle.read_parts.proofs.CallLaws.{ready, accepted, leaves, leaves_means, Means, more, feed, takes_means, ends_means}
use Rattle.read_parts.proofs.BegunLaws.{Begun, begun_fresh, begun_ready, begun_grows, begun_past, begun_fed, begun_ends}

-- ── what is told ──────────────────────────────────────────────────────────────────────────────

-- what is left behind a line feed of a part p, from whose byte n on a stands before it
drop_fed : (p a b rest : List ℕ) (n k : ℕ) → n ≤ length p → drop n p ≡ a ++ lf ∷ b → n + length a ≡ k → drop (k + 1) (p ++ rest) ≡ b ++ rest
drop_fed p a b rest n k h e f =
    let g : k + 1 ≡ n + (length a + 1) = omega arith in
    rw (g, ← drop-drop (length a + 1) n (p ++ rest), drop-append-le n p rest h, e, append_assoc a (lf ∷ b) rest)
    (drop-append-add a (lf ∷ (b ++ rest)) 1)

-- from any call of a run on: l was read since the last line feed
same_after : (l before : List ℕ) {d text lengths : List ℕ} {s : State} {events : List Event} → Begun l before s d → Run lengths s d text events
    → events ≡ map shown (lines_after l text)
same_after l before begun (end ends) = begun_ends begun ends
same_after l before {d} {text} {s = s} begun (call {d' = d'} {r = r} {events = events} n took run) =
    go (take n text) (drop n text) (sym (take-append-drop n text)) (takes_means (begun_ready begun) took) (λ m w b. same_after m w b run)
  where
    go : (p rest : List ℕ) → text ≡ p ++ rest → {x : Result Part Refusal} → Means s p d d' x
        → ((m w : List ℕ) → Begun m w (next_state s x) d' → events ≡ map shown (lines_after m (drop (bytes_taken x) text)))
        → told x d' ++ events ≡ map shown (lines_after l text)
    go p rest e (more {g} lacks grows) later =
        let past = begun_past begun p in
        later (past.line ++ unskipped s p) past.before (begun_grows past.begins (unskipped s p) grows)
        ∙ rw (e, drop-append_seam p rest) (ap (map shown) (sym (past.same rest ∙ lines_begin (unskipped s p) rest past.line lacks)))
    go p rest e (feed {g} {k} a b f n lacks grows) later =
        let past = begun_past begun p in
        let line = begun_grows past.begins a grows in
        let z : drop (k + 1) text ≡ b ++ rest
        = rw e (drop_fed p a b rest (skipped s p) k (skipped_le s p) f n) in
        rw (
          begun_fed (k + 1) line,
          later [] d' (begun_fresh (begun_ready line).room),
          z,
          e,
          past.same rest,
          f,
          append_assoc a (lf ∷ b) rest,
        )
        (ap (map shown) (sym (lines_fed past.line a (b ++ rest) lacks (past.ends a b f))))

-- a line that fits is handed out
pub shown_fits : (l : List ℕ) → length l ≤ hold_length → shown l ≡ line l
unfolding shown
shown_fits l h = rw (le-leb (length l) hold_length h)

-- and 34 is not among them
shown_not_34 : (ls : List (List ℕ)) → Every (λ e. e ≢ refusal 34) (map shown ls)
unfolding shown
shown_not_34 [] = tt
shown_not_34 (l ∷ ls) = (
  by_test (λ (e : Event). e ≢ refusal 34) (leb (length l) hold_length)
      (λ fits e. let z : ◌≡◌ {A = ℕ} 0 1 = cc in omega arith)
      (λ long e. let z : ◌≡◌ {A = ℕ} 25 34 = cc in omega arith),
  shown_not_34 ls,
)

-- ── one call ──────────────────────────────────────────────────────────────────────────────────

module _ {s : State} {d d' : List ℕ} {r : Result Part Refusal} (q : Ready s d) where
  takes_some : (p : List ℕ) → TakesPart s p d d' r → 0 < length p → 0 < bytes_taken r
  takes_some p t h = go (takes_means q t)
    where
      go : {x : Result Part Refusal} → Means s p d d' x → 0 < bytes_taken x
      go (more l g) = h
      go (feed {g} {k} a b e n l grows) = omega arith

  next_ready : (p : List ℕ) → TakesPart s p d d' r → Ready (next_state s r) d'
  next_ready p t = go (takes_means q t)
    where
      go : {x : Result Part Refusal} → Means s p d d' x → Ready (next_state s x) d'
      go (more l grows) = stores_ready (behind_ready (skipped s p) q) grows
      go (feed {g} {k} a b e n l grows) =
          record { within = omega arith; room = (stores_ready (behind_ready (skipped s p) q) grows).room }

  takes_none : TakesPart s [] d d' r → (r ≡ Ok (part NoLine 0 s)) × (d' ≡ d)
  unfolding take_part behind_blank seek index
  takes_none t =
      let m = leaves_means q t in
      let none = grows_none s [] d q.within refl in
      let e : skipped s [] ≡ 0 = omega (arith, skipped_le s []) in
      (m.0 ∙ rw e (ap (λ (x : State). Ok (part NoLine 0 x)) (sym none.result)), m.1 ∙ rw e (sym none.left))

  ends_fresh : EndsParts s d d' r → next_state s r ≡ fresh
  ends_fresh e =
      let last = settled s in
      rw (ends_means q e).0
      (by_test (λ (x : Part). x.state ≡ fresh) (is_blank last)
      (λ none. refl)
      (λ some. refl))

pub one_call : {s : State} {d d' : List ℕ} {r : Result Part Refusal} → refuses s.held (length d) ≡ false → OneCall s d d' r
one_call {s} {d} ok =
    let q = ready s d ok in
    record {
      takes_some = takes_some q;
      takes_none = takes_none q;
      next_ready = λ p t. accepted (next_ready q p t);
      ends_fresh = ends_fresh q;
    }

-- ── there is a run ────────────────────────────────────────────────────────────────────────────

abbrev GoesOn : List ℕ → State → List ℕ → List ℕ → Type 0
GoesOn lengths s d text = (more : List ℕ) × (events : List Event) × Run (lengths ++ more) s d text events

-- a call with the first n bytes that are left, and what comes behind it
then : {s : State} {d : List ℕ} (text lengths : List ℕ) (n : ℕ) → Ready s d
    → ((s' : State) (d' : List ℕ) (taken : ℕ) → Ready s' d' → (0 < length (take n text) → 0 < taken) → GoesOn lengths s' d' (drop taken text))
    → GoesOn (n ∷ lengths) s d text
then {s} {d} text lengths n q later =
    let p = take n text in
    let r = Ok (take_part s p) in
    let hold = grown_hold (begun s p) (of_line (unskipped s p)) d in
    let t : TakesPart s p d hold r = leaves (accepted q) refl refl in
    let on = later (next_state s r) hold (bytes_taken r) (next_ready q p t) (takes_some q p t) in
    (on.0, told r hold ++ on.1, call n t on.2)

-- nothing is left
at_the_end : (s : State) (d : List ℕ) → Ready s d → GoesOn [] s d []
at_the_end s d q = ([], told (Ok (ended (settled s))) (settled_hold s d), end (leaves (accepted q) refl refl))

-- all that is left is handed over again and again
to_the_end : (n : ℕ) (s : State) (d text : List ℕ) → length text ≤ n → Ready s d → GoesOn [] s d text
to_the_end zero s d [] h q = at_the_end s d q
to_the_end zero s d (x ∷ text) h q = absurd (omega arith)
to_the_end (suc n) s d [] h q = at_the_end s d q
to_the_end (suc n) s d (x ∷ text) h q =
    let m = suc (length text) in
    let on = then (x ∷ text) [] m q
    (λ s' d' taken q' some. to_the_end n s' d' (drop taken (x ∷ text))
    (simp length-drop (omega (arith, some (omega arith)))) q') in
    (m ∷ on.0, on.1, on.2)

goes_on : (lengths : List ℕ) (s : State) (d text : List ℕ) → Ready s d → GoesOn lengths s d text
goes_on [] s d text q = to_the_end (length text) s d text (omega arith) q
goes_on (n ∷ lengths) s d text q = then text lengths n q (λ s' d' taken q' some. goes_on lengths s' d' (drop taken text) q')

pub sameness : {d : List ℕ} → length d ≡ hold_length → (text : List ℕ) → Sameness d text
sameness {d} room text =
    let begun = begun_fresh room in
    record {
      same = λ run. same_after [] d begun run;
      never_34 = λ run. rw (same_after [] d begun run) (shown_not_34 (lines text));
      goes_on = λ lengths. goes_on lengths fresh d text (begun_ready begun);
    }
