-- Laws of strand and phase: a text of one byte is judged by it, any other is refused, by one number; what is written for
-- the number of a strand or a phase is read as it; no two strands and no two phases have one number. Assumes nothing.
use Prim.Native.Nat.{ℕ, ◌≤◌, ◌<◌}
use Rattle.std.specs.Prelude.{Result, Ok, Err}
use native.Mathlib.Omega.{arith}
use mathlib.Core.Path.{◌≡◌, refl, sym, ap, ◌∙◌}
use mathlib.Core.Bool.{Bool, true, false, cond}
use mathlib.Core.List.{List, [], ◌∷◌}
use mathlib.Core.Logic.{◌≢◌}
use borrow.Author.Tests.{ne_eqb}
use lib.Dec.{eqb}
use lib.ListN.{length, get_or}
use Rattle.base_lists.specs.Bytes.{plus, minus, dot, question}
use Rattle.base_refusals.specs.declared.Refusal.{Refusal}
use Rattle.base_refusals.specs.declared.Refusal.TheVariants as refusal
use Rattle.read_tokens.specs.declared.strand.Strand.{Strand}
use Rattle.read_tokens.specs.declared.strand.Strand.TheVariants as strand
use Rattle.read_tokens.specs.declared.phase.Phase.{Phase}
use Rattle.read_tokens.specs.declared.phase.Phase.TheVariants as phase
use Rattle.read_tokens.specs.Tokens.{strand_number, phase_number, strand_of_byte, strand_of, strand_byte, phase_of_byte, phase_of}
use Rattle.read_tokens.specs.Tokens.{phase_byte}

-- ── read ──────────────────────────────────────────────────────────────────────────────────────

-- f judges a text of one byte by it, and any other as `no`
pub record OneByte {A : Type 0} (f : List ℕ → A) (byte : ℕ → A) (no : A) : Type 0 where
  pub one : (s : List ℕ) → length s ≡ 1 → f s ≡ byte (get_or s 0 0)
  pub other : (s : List ℕ) → (length s ≡ 1 → ⊥) → f s ≡ no

module _ {A : Type 0} (f : List ℕ → A) (byte : ℕ → A) {no : A} (none : f [] ≡ no) (single : (x : ℕ) → f (x ∷ []) ≡ byte x)
    (more : (x y : ℕ) (s : List ℕ) → f (x ∷ y ∷ s) ≡ no) where
  by_one : (s : List ℕ) → length s ≡ 1 → f s ≡ byte (get_or s 0 0)
  by_one [] h = absurd (omega arith)
  by_one (x ∷ []) h = single x
  by_one (x ∷ y ∷ s) h = absurd (omega arith)

  by_other : (s : List ℕ) → (length s ≡ 1 → ⊥) → f s ≡ no
  by_other [] h = none
  by_other (x ∷ []) h = absurd (h refl)
  by_other (x ∷ y ∷ s) h = more x y s

  one_byte : OneByte f byte no
  one_byte = record { one = by_one; other = by_other }

pub strand_one_byte : OneByte strand_of strand_of_byte (Err refusal.Strand)
unfolding strand_of
strand_one_byte = one_byte strand_of strand_of_byte refl (λ x. refl) (λ x y s. refl)

pub phase_one_byte : OneByte phase_of phase_of_byte (Err refusal.Phase)
unfolding phase_of
phase_one_byte = one_byte phase_of phase_of_byte refl (λ x. refl) (λ x y s. refl)

-- ── by what a match on the text tells of it ────────────────────────────────────────────────────

pub strand_dot : (s : List ℕ) → 1 ≤ length s → length s < 2 → get_or s 0 0 ≡ 46 → Ok strand.None ≡ strand_of s
strand_dot s l u h = sym (strand_one_byte.one s (omega arith) ∙ ap strand_of_byte h)

pub strand_plus : (s : List ℕ) → 1 ≤ length s → length s < 2 → get_or s 0 0 ≡ 43 → Ok strand.Forward ≡ strand_of s
strand_plus s l u h = sym (strand_one_byte.one s (omega arith) ∙ ap strand_of_byte h)

pub strand_minus : (s : List ℕ) → 1 ≤ length s → length s < 2 → get_or s 0 0 ≡ 45 → Ok strand.Reverse ≡ strand_of s
strand_minus s l u h = sym (strand_one_byte.one s (omega arith) ∙ ap strand_of_byte h)

pub strand_question : (s : List ℕ) → 1 ≤ length s → length s < 2 → get_or s 0 0 ≡ 63 → Ok strand.Unknown ≡ strand_of s
strand_question s l u h = sym (strand_one_byte.one s (omega arith) ∙ ap strand_of_byte h)

pub strand_other_byte : (s : List ℕ) → 1 ≤ length s → length s < 2 → get_or s 0 0 ≢ 46 → get_or s 0 0 ≢ 43 → get_or s 0 0 ≢ 45 → get_or s 0 0 ≢ 63 → Err refusal.Strand ≡ strand_of s
strand_other_byte s l u p q r t =
    sym (strand_one_byte.one s (omega arith) ∙ rw (ne_eqb (get_or s 0 0) 46 p, ne_eqb (get_or s 0 0) 43 q, ne_eqb (get_or s 0 0) 45 r, ne_eqb (get_or s 0 0) 63 t))

pub strand_of_none : (s : List ℕ) → length s < 1 → Err refusal.Strand ≡ strand_of s
strand_of_none s l = sym (strand_one_byte.other s (λ e. omega arith))

pub strand_of_more : (s : List ℕ) → 2 ≤ length s → Err refusal.Strand ≡ strand_of s
strand_of_more s l = sym (strand_one_byte.other s (λ e. omega arith))

pub ruleset strands_told = (strand_dot, strand_plus, strand_minus, strand_question, strand_other_byte, strand_of_none, strand_of_more)

pub phase_dot : (s : List ℕ) → 1 ≤ length s → length s < 2 → get_or s 0 0 ≡ 46 → Ok phase.None ≡ phase_of s
phase_dot s l u h = sym (phase_one_byte.one s (omega arith) ∙ ap phase_of_byte h)

pub phase_zero : (s : List ℕ) → 1 ≤ length s → length s < 2 → get_or s 0 0 ≡ 48 → Ok phase.Zero ≡ phase_of s
phase_zero s l u h = sym (phase_one_byte.one s (omega arith) ∙ ap phase_of_byte h)

pub phase_one : (s : List ℕ) → 1 ≤ length s → length s < 2 → get_or s 0 0 ≡ 49 → Ok phase.One ≡ phase_of s
phase_one s l u h = sym (phase_one_byte.one s (omega arith) ∙ ap phase_of_byte h)

pub phase_two : (s : List ℕ) → 1 ≤ length s → length s < 2 → get_or s 0 0 ≡ 50 → Ok phase.Two ≡ phase_of s
phase_two s l u h = sym (phase_one_byte.one s (omega arith) ∙ ap phase_of_byte h)

pub phase_other_byte : (s : List ℕ) → 1 ≤ length s → length s < 2 → get_or s 0 0 ≢ 46 → get_or s 0 0 ≢ 48 → get_or s 0 0 ≢ 49 → get_or s 0 0 ≢ 50 → Err refusal.Phase ≡ phase_of s
phase_other_byte s l u p q r t =
    sym (phase_one_byte.one s (omega arith) ∙ rw (ne_eqb (get_or s 0 0) 46 p, ne_eqb (get_or s 0 0) 48 q, ne_eqb (get_or s 0 0) 49 r, ne_eqb (get_or s 0 0) 50 t))

pub phase_of_none : (s : List ℕ) → length s < 1 → Err refusal.Phase ≡ phase_of s
phase_of_none s l = sym (phase_one_byte.other s (λ e. omega arith))

pub phase_of_more : (s : List ℕ) → 2 ≤ length s → Err refusal.Phase ≡ phase_of s
phase_of_more s l = sym (phase_one_byte.other s (λ e. omega arith))

pub ruleset phases_told = (phase_dot, phase_zero, phase_one, phase_two, phase_other_byte, phase_of_none, phase_of_more)

-- ── refused ───────────────────────────────────────────────────────────────────────────────────

-- the last of four choices, where none of the four is what was chosen
neither : {A : Type 0} (a b c d : Bool) {w x y z no r : A} → cond a w (cond b x (cond c y (cond d z no))) ≡ r → (w ≡ r → ⊥) → (x ≡ r → ⊥)
    → (y ≡ r → ⊥) → (z ≡ r → ⊥) → no ≡ r
neither true b c d e f g h i = absurd (f e)
neither false true c d e f g h i = absurd (g e)
neither false false true d e f g h i = absurd (h e)
neither false false false true e f g h i = absurd (i e)
neither false false false false e f g h i = e

-- a strand is refused by its own reason alone, 3, and a phase by its own, 4
module _ {r : Refusal} where
  strand_other : {t : Strand} → ◌≡◌ {A = Result Strand Refusal} (Ok t) (Err r) → ⊥
  strand_other e = let z : ◌≡◌ {A = ℕ} 0 1 = cc in omega arith

  pub strand_three : (s : List ℕ) → strand_of s ≡ Err r → r ≡ refusal.Strand
  unfolding strand_of
  strand_three [] e = cc
  strand_three (x ∷ []) e =
      let last = neither (eqb x dot) (eqb x plus) (eqb x minus) (eqb x question) e strand_other strand_other strand_other strand_other in cc
  strand_three (x ∷ y ∷ s) e = cc

  phase_other : {p : Phase} → ◌≡◌ {A = Result Phase Refusal} (Ok p) (Err r) → ⊥
  phase_other e = let z : ◌≡◌ {A = ℕ} 0 1 = cc in omega arith

  pub phase_four : (s : List ℕ) → phase_of s ≡ Err r → r ≡ refusal.Phase
  unfolding phase_of
  phase_four [] e = cc
  phase_four (x ∷ []) e =
      let last = neither (eqb x dot) (eqb x 48) (eqb x 49) (eqb x 50) e phase_other phase_other phase_other phase_other in cc
  phase_four (x ∷ y ∷ s) e = cc

-- ── written and read ──────────────────────────────────────────────────────────────────────────

pub strand_back : (t : Strand) → strand_of (strand_byte (strand_number t) ∷ []) ≡ Ok t
unfolding strand_of strand_number
strand_back strand.None = refl
strand_back strand.Forward = refl
strand_back strand.Reverse = refl
strand_back strand.Unknown = refl

pub phase_back : (p : Phase) → phase_of (phase_byte (phase_number p) ∷ []) ≡ Ok p
unfolding phase_of phase_number
phase_back phase.Zero = refl
phase_back phase.One = refl
phase_back phase.Two = refl
phase_back phase.None = refl

-- ── numbered ──────────────────────────────────────────────────────────────────────────────────

-- where a list has each value at its number, no two have one number
numbered : {A : Type 0} (number : A → ℕ) (l : List A) (d : A) → ((a : A) → get_or l (number a) d ≡ a) → (a b : A) → number a ≡ number b
    → a ≡ b
numbered number l d back a b e = sym (back a) ∙ ap (λ n. get_or l n d) e ∙ back b

pub strand_number_one : (a b : Strand) → strand_number a ≡ strand_number b → a ≡ b
unfolding strand_number
strand_number_one =
    numbered strand_number (strand.None ∷ strand.Forward ∷ strand.Reverse ∷ strand.Unknown ∷ []) strand.None
    (λ t. elim t as (λ t. get_or (strand.None ∷ strand.Forward ∷ strand.Reverse ∷ strand.Unknown ∷ []) (strand_number t) strand.None ≡ t) [ strand.None ↦ refl | strand.Forward ↦ refl | strand.Reverse ↦ refl | strand.Unknown ↦ refl ])

pub phase_number_one : (a b : Phase) → phase_number a ≡ phase_number b → a ≡ b
unfolding phase_number
phase_number_one =
    numbered phase_number (phase.Zero ∷ phase.One ∷ phase.Two ∷ phase.None ∷ []) phase.None
    (λ p. elim p as (λ p. get_or (phase.Zero ∷ phase.One ∷ phase.Two ∷ phase.None ∷ []) (phase_number p) phase.None ≡ p) [ phase.Zero ↦ refl | phase.One ↦ refl | phase.Two ↦ refl | phase.None ↦ refl ])
