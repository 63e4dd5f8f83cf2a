-- Each call is refused by the first of its reasons that holds, and where that is 34 nothing changes. Assumes nothing.
use Prim.Native.Nat.{ℕ, ◌+◌, ◌<◌}
use native.Mathlib.Omega.{arith}
use mathlib.Core.Path.{◌≡◌, refl, sym, ap, ◌∙◌}
use mathlib.Core.Logic.{◌≢◌}
use mathlib.Core.Bool.{Bool, true, false, cond, not}
use mathlib.Core.List.{List, [], ◌∷◌}
use lib.Dec.{eqb}
use lib.ListN.{length}
use borrow.Author.Tests.{eqb-true, eqb-false, lt-ltb, le-ltb, not-true}
use Rattle.base_lists.proofs.BoolLaws.{by_test, and_right}
use Rattle.base_buffer.specs.Answer.{◌when◌, refusal_of, number_or}
use Rattle.std.specs.Prelude.{Some, None, Result, Ok, Err}
use Rattle.base_refusals.specs.declared.Refusal.{Refusal}
use Rattle.base_refusals.specs.declared.Refusal.TheVariants as refusal
use Rattle.base_scan.specs.Find.{is}
use Rattle.base_scan.proofs.FindLaws.{seek_le}
use Rattle.base_lists.specs.Bytes.{lf}
use Rattle.read_parts.specs.declared.state.State.{State}
use Rattle.read_parts.specs.declared.Part.{Part}
use Rattle.read_parts.specs.declared.Came.TheVariants.{Line, TooLong}
use Rattle.read_parts.specs.State.{is_long, is_blank, skipped, grown}
use Rattle.read_parts.specs.Calls.{came_refusal, part_refusal, refuses, Leaves, fed, begun, unskipped, feed_at, of_line, ends_long}
use Rattle.read_parts.specs.Calls.{take_part, ended}

-- where 34 is not given, the answer is refused by 25 or not at all
module _ {s : State} {d d' hold : List ℕ} {answer : Part} {r : Result Part Refusal} (long : Bool)
    (number : came_refusal answer.came ≡ cond long 25 0) (p : Leaves s d answer hold d' r) where
  as_number : (b : Bool) → number_or (cond b (Some refusal.Hold) (cond long (Some refusal.LineTooLong) None)) 0 ≡ cond b 34 (cond long 25 0)
  as_number true = refl
  as_number false = go long
    where
      go : (t : Bool) → number_or (cond t (Some refusal.LineTooLong) None) 0 ≡ cond t 25 0
      go true = refl
      go false = refl

  pub leaves_number : part_refusal r ≡ number_or (refusal_of ((refusal.Hold when refuses s.held (length d)) ∷ (refusal.LineTooLong when long) ∷ [])) 0
  leaves_number = ap part_refusal p.result ∙ go (refuses s.held (length d)) ∙ sym (as_number (refuses s.held (length d)))
    where
      go : (b : Bool) → part_refusal (cond b (Err refusal.Hold) (Ok answer)) ≡ cond b 34 (cond long 25 0)
      go true = refl
      go false = number

  pub leaves_same : part_refusal r ≡ 34 → d' ≡ d
  leaves_same e = p.left ∙ go (refuses s.held (length d)) (sym (as_number (refuses s.held (length d))) ∙ sym leaves_number ∙ e)
    where
      short : (b : Bool) → ◌≢◌ {A = ℕ} (cond b 25 0) 34
      short true f = omega arith
      short false f = omega arith

      go : (b : Bool) → ◌≡◌ {A = ℕ} (cond b 34 (cond long 25 0)) 34 → cond b d hold ≡ d
      go true f = refl
      go false f = absurd (short long f)

-- ── the two calls ─────────────────────────────────────────────────────────────────────────────

fed_number : (s : State) (k : ℕ) → came_refusal (fed s k).came ≡ cond (is_long s.tail) 25 0
fed_number s k = go (is_long s.tail)
  where
    go : (b : Bool) → came_refusal (cond b TooLong (Line s.held)) ≡ cond b 25 0
    go true = refl
    go false = refl

pub take_part_number : (s : State) (p : List ℕ) → came_refusal (take_part s p).came ≡ cond (ends_long s p) 25 0
unfolding take_part
take_part_number s p =
    let rest = unskipped s p in
    let k = feed_at rest in
    by_test (λ (r : Part). came_refusal r.came ≡ cond (ends_long s p) 25 0) (eqb k (length rest))
    (λ all. let e = eqb-true k (length rest) all in rw (le-ltb k (length rest) (omega arith)))
    (λ some.
    let h : k < length rest = omega (arith, seek_le (is lf) 0 rest, eqb-false k (length rest) some) in
    rw (lt-ltb k (length rest) h) (fed_number (grown (begun s p) (of_line rest)) (skipped s p + k + 1)))

pub ended_number : (s : State) → came_refusal (ended s).came ≡ cond (is_long s.tail) 25 0
ended_number s =
    by_test (λ (r : Part). came_refusal r.came ≡ cond (is_long s.tail) 25 0) (is_blank s)
    (λ none. rw (not-true (is_long s.tail) (and_right (eqb s.held 0) (not (is_long s.tail)) none)))
    (λ some. fed_number s 0)
