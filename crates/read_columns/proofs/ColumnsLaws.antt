-- Laws of the columns: one law serves all eight cuts, one says whose bounds pass, and one gives a written row's columns back.
-- Assumes nothing.
use Rattle.std.proofs.Common.{◌≡◌, ℕ, zero, suc, ◌+◌, ◌-◌, ◌<◌, ◌≤◌, Bool, true, false, cond, eqb, List, [], ◌∷◌, ◌++◌, length, get_or, drop, sym, refl, ap, ◌∙◌, ap₂, true≢false, add-zero, add-one, arith, length-append, length-drop, length-take, take_all, ne_eqb, le-leb, leb-true}
use Rattle.std.specs.Prelude.{Ok, Err}
use lib.ListN.{get_or-eq_default}
use lib.Seq.{take-append_seam, drop-append-add}
use Rattle.base_lists.specs.Bytes.{Every, Lacks, tab}
use Rattle.base_refusals.specs.declared.Refusal.{Refusal}
use Rattle.base_refusals.specs.declared.Refusal.TheVariants as refusal
use Rattle.base_scan.specs.declared.place.Place.{Place}
use Rattle.base_scan.specs.Find.{index, seek, found}
use Rattle.base_scan.specs.Part.{text_at}
use Rattle.base_words.proofs.SameLaws.{same_refl, same_is}
use Rattle.read_columns.specs.declared.bounds.Bounds.{Bounds}
use Rattle.read_columns.specs.declared.column.Column.{Column}
use Rattle.read_columns.specs.declared.column.Column.TheVariants as column
use Rattle.read_columns.specs.Columns.{past_tab, ends, has_columns, indexed, listed, matches, is_own, place_in, column_text, row_of}
use Rattle.read_columns.specs.Columns.{tabs_before}

-- ── the eight cuts ────────────────────────────────────────────────────────────────────────────

found_cond : (t : Bool) (a b : ℕ) (s : List ℕ) → cond t (suc (found tab a s)) (suc (found tab b s)) ≡ suc (found tab (cond t a b) s)
found_cond true a b s = refl
found_cond false a b s = refl

past_tab_suc : (n : ℕ) (s : List ℕ) → past_tab (suc n) s ≡ suc (found tab (past_tab n s) s)
unfolding past_tab seek index
past_tab_suc zero [] = refl
past_tab_suc (suc n) [] = refl
past_tab_suc zero (x ∷ s) = rw (past_tab_suc zero s)
past_tab_suc (suc n) (x ∷ s) = rw (past_tab_suc (suc n) s, past_tab_suc n s, found_cond (eqb x tab))

-- the next end is one past the next tab
pub past_tab_next : (n : ℕ) (s : List ℕ) → past_tab (suc n) s ≡ found tab (past_tab n s) s + 1
past_tab_next n s = rw (add-one, past_tab_suc n s)

-- so eight cuts in a row are the bounds
pub ends_by : (s : List ℕ) {b₁ b₂ b₃ b₄ b₅ b₆ b₇ b₈ : ℕ} → b₁ ≡ found tab 0 s + 1 → b₂ ≡ found tab b₁ s + 1 → b₃ ≡ found tab b₂ s + 1
    → b₄ ≡ found tab b₃ s + 1 → b₅ ≡ found tab b₄ s + 1 → b₆ ≡ found tab b₅ s + 1 → b₇ ≡ found tab b₆ s + 1 → b₈ ≡ found tab b₇ s + 1
    → record { reference_sequence_name_end = b₁; source_end = b₂; type_end = b₃; start_end = b₄; end_end = b₅; score_end = b₆; strand_end = b₇; phase_end = b₈ } ≡ ends s
unfolding ends past_tab
ends_by s p₁ p₂ p₃ p₄ p₅ p₆ p₇ p₈ =
    rw (past_tab_next 7 s, past_tab_next 6 s, past_tab_next 5 s, past_tab_next 4 s, past_tab_next 3 s, past_tab_next 2 s, past_tab_next 1 s, past_tab_next 0 s, ← p₁, ← p₂, ← p₃, ← p₄, ← p₅, ← p₆, ← p₇, ← p₈)

-- ── their order ───────────────────────────────────────────────────────────────────────────────

pub past_tab_le : (n : ℕ) (s : List ℕ) → past_tab n s ≤ past_tab (suc n) s
unfolding past_tab
past_tab_le zero s = omega arith
past_tab_le (suc n) [] = omega arith
past_tab_le (suc n) (x ∷ s) = go (eqb x tab) (past_tab_le n s) (past_tab_le (suc n) s)
  where
    go : (t : Bool) → past_tab n s ≤ past_tab (suc n) s → past_tab (suc n) s ≤ past_tab (suc (suc n)) s
        → suc (cond t (past_tab n s) (past_tab (suc n) s)) ≤ suc (cond t (past_tab (suc n) s) (past_tab (suc (suc n)) s))
    go true h k = omega arith
    go false h k = omega arith

pub past_tab_mono : (n k : ℕ) (s : List ℕ) → past_tab n s ≤ past_tab (n + k) s
past_tab_mono n zero s = rw add-zero (omega arith)
past_tab_mono n (suc k) s =
    let e : n + suc k ≡ suc (n + k) = omega arith in rw e (omega (arith, past_tab_mono n k s, past_tab_le (n + k) s))

-- the bounds of a line that has its columns lie inside it
pub past_tab_inside : (n : ℕ) (s : List ℕ) → n ≤ 8 → has_columns s ≡ true → past_tab n s ≤ length s
past_tab_inside n s h e =
    let k : n + (8 - n) ≡ 8 = omega arith in
    omega (arith, rw k at (past_tab_mono n (8 - n) s), leb-true (past_tab 8 s) (length s) e)

-- ── whose bounds ──────────────────────────────────────────────────────────────────────────────

abbrev of_list : List ℕ → Bounds
of_list l =
    record {
      reference_sequence_name_end = get_or l 0 0;
      source_end = get_or l 1 0;
      type_end = get_or l 2 0;
      start_end = get_or l 3 0;
      end_end = get_or l 4 0;
      score_end = get_or l 5 0;
      strand_end = get_or l 6 0;
      phase_end = get_or l 7 0;
    }

-- bounds that pass the test are the line's ends
pub own_ends : (s : List ℕ) (b : Bounds) → is_own s b ≡ true → b ≡ ends s
unfolding is_own indexed
own_ends s b e = go (has_columns s) e
  where
    go : (t : Bool) → matches (cond t (Ok (ends s)) (Err refusal.Columns)) b ≡ true → b ≡ ends s
    go true p = ap of_list (sym (same_is (listed (ends s)) (listed b) p))
    go false p = absurd (true≢false (sym p))

-- the ends of a line that has its columns pass it
pub own_record : (s : List ℕ) → has_columns s ≡ true → is_own s (ends s) ≡ true
unfolding is_own indexed
own_record s e = rw e (same_refl (listed (ends s)))

-- of a line that has not, none pass
pub own_none : (s : List ℕ) (b : Bounds) → has_columns s ≡ false → is_own s b ≡ false
unfolding is_own indexed
own_none s b e = rw e

-- what an index says of its line
pub indexed_at : (s : List ℕ) {b : Bounds} → indexed s ≡ Ok b → (has_columns s ≡ true) × (b ≡ ends s)
unfolding indexed
indexed_at s {b} e = go (has_columns s) e
  where
    go : (t : Bool) → cond t (Ok (ends s)) (Err refusal.Columns) ≡ Ok b → (t ≡ true) × (b ≡ ends s)
    go true e = (refl, cc)
    go false e = absurd (let z : ◌≡◌ {A = ℕ} 0 1 = cc in omega arith)

pub indexed_refused : (s : List ℕ) {r : Refusal} → indexed s ≡ Err r → has_columns s ≡ false
unfolding indexed
indexed_refused s {r} e = go (has_columns s) e
  where
    go : (t : Bool) → cond t (Ok (ends s)) (Err refusal.Columns) ≡ Err r → t ≡ false
    go true e = absurd (let z : ◌≡◌ {A = ℕ} 0 1 = cc in omega arith)
    go false e = refl

-- and it is refused for its columns alone
pub indexed_reason : (s : List ℕ) {r : Refusal} → indexed s ≡ Err r → r ≡ refusal.Columns
unfolding indexed
indexed_reason s {r} e = go (has_columns s) e
  where
    go : (t : Bool) → cond t (Ok (ends s)) (Err refusal.Columns) ≡ Err r → r ≡ refusal.Columns
    go true e = absurd (let z : ◌≡◌ {A = ℕ} 0 1 = cc in omega arith)
    go false e = cc

-- ── a column's place ──────────────────────────────────────────────────────────────────────────

pub place_is : {p : Place} {a e : ℕ} → (p.start ≡ a) × (p.end ≡ e) → p ≡ record { start = a; end = e }
place_is h = ap₂ (λ (a e : ℕ). record { start = a; end = e }) h.0 h.1

-- where columns 1 to 8 of a line stand, by the number of tabs before
abbrev pub between_tabs : ℕ → List ℕ → Place
between_tabs n s = record { start = past_tab n s; end = past_tab (suc n) s - 1 }

-- what stands at a place is no longer than the whole
pub text_short : (p : Place) (s : List ℕ) → length (text_at p s) ≤ length s
text_short p s = simp (length-take, length-drop) (omega arith)

-- ── a row that is written ─────────────────────────────────────────────────────────────────────

-- a column that lacks the tab ends at it
pub past_tab_column : (n : ℕ) (c s : List ℕ) → Lacks tab c → past_tab (suc n) (c ++ tab ∷ s) ≡ suc (length c) + past_tab n s
unfolding past_tab
past_tab_column n [] s h = omega arith
past_tab_column n (x ∷ c) s h = rw (ne_eqb x tab h.0, past_tab_column n c s h.1) (omega arith)

module _ (c s : List ℕ) (lacks : Lacks tab c) where
  -- the first column of a row is c, and behind it stand those of s
  pub first_column : text_at (between_tabs 0 (c ++ tab ∷ s)) (c ++ tab ∷ s) ≡ c
  unfolding past_tab
  first_column =
      let e : past_tab 1 (c ++ tab ∷ s) - 1 - 0 ≡ length c = omega (arith, past_tab_column 0 c s lacks) in rw e (take-append_seam c
      (tab ∷ s))

  behind : (n : ℕ) → drop (past_tab (suc n) (c ++ tab ∷ s)) (c ++ tab ∷ s) ≡ drop (past_tab n s) s
  behind n =
      let e : past_tab (suc n) (c ++ tab ∷ s) ≡ length c + suc (past_tab n s) = omega (arith, past_tab_column n c s lacks) in
      rw e (drop-append-add c (tab ∷ s) (suc (past_tab n s)))

  pub next_column : (n : ℕ) → text_at (between_tabs (suc n) (c ++ tab ∷ s)) (c ++ tab ∷ s) ≡ text_at (between_tabs n s) s
  next_column n =
      let e : past_tab (suc
      (suc n)) (c ++ tab ∷ s) - 1 - past_tab (suc n) (c ++ tab ∷ s) ≡ past_tab (suc n) s - 1 - past_tab n s = omega (arith, past_tab_column n c s lacks, past_tab_column (suc n) c s lacks) in
      rw (e, behind n)

row_column : (n : ℕ) (row : List (List ℕ)) (rest : List ℕ) → Every (Lacks tab) row → n < length row
    → text_at (between_tabs n (row_of row rest)) (row_of row rest) ≡ get_or row n rest
row_column n [] rest h k = absurd (omega arith)
row_column zero (c ∷ row) rest h k = first_column c (row_of row rest) h.0
row_column (suc n) (c ∷ row) rest h k = next_column c (row_of row rest) h.0 n ∙ row_column n row rest h.1 (omega arith)

-- behind the last tab stands the rest
row_rest : (row : List (List ℕ)) (rest : List ℕ) → Every (Lacks tab) row
    → (past_tab (length row) (row_of row rest) ≤ length (row_of row rest)) × (drop (past_tab (length row)
    (row_of row rest)) (row_of row rest) ≡ rest)
unfolding past_tab
row_rest [] rest h = (omega arith, refl)
row_rest (c ∷ row) rest h =
    let r = row_rest row rest h.1 in
    let s = row_of row rest in
    (omega (arith, past_tab_column (length row) c s h.0, length-append c (tab ∷ s), r.0), behind c s h.0 (length row) ∙ r.1)

module _ (row : List (List ℕ)) (rest : List ℕ) (eight : length row ≡ 8) (lacks : Every (Lacks tab) row) where
  -- eight columns that lack the tab and any rest: a line that has its columns
  pub row_record : has_columns (row_of row rest) ≡ true
  row_record = le-leb _ _ (rw eight at (row_rest row rest lacks).0)

  -- and each column is read back
  pub row_text : (c : Column) → column_text c (row_of row rest) ≡ get_or row (tabs_before c) rest
  unfolding place_in ends past_tab
  row_text column.ReferenceSequenceName = row_column 0 row rest lacks (omega arith)
  row_text column.Source = row_column 1 row rest lacks (omega arith)
  row_text column.Ty = row_column 2 row rest lacks (omega arith)
  row_text column.Start = row_column 3 row rest lacks (omega arith)
  row_text column.End = row_column 4 row rest lacks (omega arith)
  row_text column.Score = row_column 5 row rest lacks (omega arith)
  row_text column.Strand = row_column 6 row rest lacks (omega arith)
  row_text column.Phase = row_column 7 row rest lacks (omega arith)
  row_text column.Attributes =
      let s = row_of row rest in
      take_all (length s - past_tab 8 s) (drop (past_tab 8 s) s) (simp length-drop (omega arith))
      ∙ (rw eight at (row_rest row rest lacks).1)
      ∙ sym (get_or-eq_default row rest {n = 8} (omega arith))
