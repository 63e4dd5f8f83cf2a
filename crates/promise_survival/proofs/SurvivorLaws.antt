-- Laws of `before` and `after`, for items of any kind: they take what lies before a stretch and after it, all of that, and nothing twice;
-- and what they take is read, first and last. Assumes nothing.
use Prim.Native.Nat.{ℕ, ◌+◌, ◌-◌, ◌≤◌}
use native.Mathlib.Omega.{arith}
use mathlib.Core.Path.{◌≡◌, refl, sym, ap, ◌∙◌}
use mathlib.Core.List.{List, [], ◌∷◌, ◌++◌, append_assoc, append-nil, tail-eq_of_cons-eq, head-eq_of_cons-eq}
use lib.Dec.{leb}
use lib.ListN.{length, length-append}
use borrow.Author.Tests.{leb-true, leb-false, le-leb, lt-leb}
use Rattle.base_lists.specs.Bytes.{Every, lf}
use Rattle.base_lists.proofs.BoolLaws.{by_test}
use Rattle.read_lines.specs.Lines.{lines, text, OneLine}
use Rattle.read_lines.proofs.LinesLaws.{lines_text, lines_of_text, lines_append}
use Rattle.promise_survival.specs.Survivors.{lines_of, text_of, size, size_behind, before, after}

-- ── lines of a text ───────────────────────────────────────────────────────────────────────────

-- of two beginnings of a text the shorter one begins the other
begins : (p a q r : List ℕ) → p ++ q ≡ a ++ r → length p ≤ length a → (c : List ℕ) × (a ≡ p ++ c) × (q ≡ c ++ r)
begins [] a q r e h = (a, refl, e)
begins (x ∷ p) [] q r e h = absurd (omega arith)
begins (x ∷ p) (y ∷ a) q r e h =
    let rest = begins p a q r (tail-eq_of_cons-eq e) (omega arith) in
    (rest.0, cc (head-eq_of_cons-eq e, rest.1), rest.2)

-- a first line is read whatever stands behind it, and last lines behind a line feed whatever stands before them
first_line : (l a c s : List ℕ) → OneLine l → a ≡ (l ++ lf ∷ []) ++ c → lines (a ++ s) ≡ l ∷ lines (c ++ s)
unfolding text
first_line l a c s one e = rw (e, append_assoc (l ++ lf ∷ []) c s) (lines_text (l ∷ []) (c ++ s) (one, tt))

last_lines : (ls : List (List ℕ)) (b d s : List ℕ) → Every OneLine ls → b ≡ d ++ lf ∷ text ls
    → lines (s ++ b) ≡ lines ((s ++ d) ++ lf ∷ []) ++ ls
last_lines ls b d s one e = rw (e, ← append_assoc, lines_append (s ++ d) (text ls), lines_of_text ls one)

-- ── items ─────────────────────────────────────────────────────────────────────────────────────

module _ {Item : Type 0} (line : Item → List ℕ) where
  -- the bytes of the first item, and those of the others
  size_text : (i : Item) (more : List Item) → length (text_of line (i ∷ more)) ≡ size line i + length (text_of line more)
  unfolding text
  size_text i more = simp length-append (omega arith)

  -- the first item ends within the beginning a of the text
  first_within : (i : Item) (more : List Item) (a r : List ℕ) → text_of line (i ∷ more) ≡ a ++ r → size line i ≤ length a
      → (c : List ℕ) × (a ≡ (line i ++ lf ∷ []) ++ c) × (text_of line more ≡ c ++ r)
  unfolding text
  first_within i more a r e h =
      begins (line i ++ lf ∷ []) a (text_of line more) r (rw (append_assoc (line i) (lf ∷ [])) e) (simp length-append (omega arith))

  -- ── before ──

  -- Of a text that begins with a these items are read first, whatever stands behind a.
  abbrev First : List ℕ → List Item → Type 0
  First a items = (c : List ℕ) × ((s : List ℕ) → lines (a ++ s) ≡ lines_of line items ++ lines (c ++ s))

  pub before_read : (items : List Item) → Every OneLine (lines_of line items) → (a r : List ℕ) → text_of line items ≡ a ++ r
      → First a (before line (length a) items)
  unfolding before
  before_read [] one a r e = (a, λ s. refl)
  before_read (i ∷ more) one a r e =
      by_test (First a) (leb (size line i) (length a))
      (λ fits.
      let f = first_within i more a r e (omega (arith, leb-true)) in
      let n : length a - size line i ≡ length f.0 = omega (arith, simp length-append at (ap length f.1)) in
      let m = before_read more one.1 f.0 r f.2 in
      (m.0, λ s. first_line (line i) a f.0 s one.0 f.1 ∙ rw n (ap (λ (ls : List (List ℕ)). line i ∷ ls) (m.1 s))))
      (λ long. (a, λ s. refl))

  -- and no others are there: where the items p end within the bytes, all of them are
  pub before_all : (p q : List Item) (n : ℕ) → length (text_of line p) ≤ n → (more : List Item) × (before line n (p ++ q) ≡ p ++ more)
  unfolding before
  before_all [] q n h = (before line n q, refl)
  before_all (i ∷ p) q n h =
      let s = size_text i p in
      let rest = before_all p q (n - size line i) (omega arith) in
      (rest.0, rw (le-leb (size line i) n (omega arith), rest.1))

  -- ── after ──

  -- Of a text that ends with b these items are read last, whatever stands before b.
  abbrev Last : List ℕ → List Item → Type 0
  Last b items = (s : List ℕ) → (damaged : List (List ℕ)) × (lines (s ++ b) ≡ damaged ++ lines_of line items)

  pub after_read : (items : List Item) → Every OneLine (lines_of line items) → (r b : List ℕ) → text_of line items ≡ r ++ b
      → Last b (after line (length b) items)
  unfolding after text
  after_read [] one r b e = λ s. (lines (s ++ b), sym (append-nil (lines (s ++ b))))
  after_read (i ∷ more) one r b e =
      let total = sym (size_text i more) ∙ ap length e ∙ length-append r b in
      by_test (Last b) (leb (size_behind line more) (length b))
      (λ fits.
      let d = begins r (line i) b (lf ∷ text_of line more) (sym e) (omega (arith, leb-true)) in
      λ s. (lines ((s ++ d.0) ++ lf ∷ []), last_lines (lines_of line more) b d.0 s one.1 d.2))
      (λ long. let f = first_within i more r b e (omega (arith, leb-false)) in after_read more one.1 f.0 b f.2)

  -- and no others are there: where the items q and the line feed of an item before them lie within the bytes, all of them are
  pub after_all : (p q : List Item) (i : Item) (n : ℕ) → 1 + length (text_of line q) ≤ n
      → (more : List Item) × (after line n (p ++ (i ∷ q)) ≡ more ++ q)
  unfolding after
  after_all [] q i n h = ([], rw (le-leb (size_behind line q) n h))
  after_all (j ∷ p) q i n h =
      by_test (λ (last : List Item). (more : List Item) × (last ≡ more ++ q)) (leb (size_behind line (p ++ (i ∷ q))) n)
      (λ fits. (p ++ (i ∷ []), sym (append_assoc p (i ∷ []) q)))
      (λ long. after_all p q i n h)

  -- ── both ──

  -- the items are the first ones, some that were lost, and the last ones
  abbrev Parted : List Item → List Item → List Item → Type 0
  Parted items first last = (lost : List Item) × (items ≡ first ++ (lost ++ last))

  after_ends : (n : ℕ) (items : List Item) → Parted items [] (after line n items)
  unfolding after
  after_ends n [] = ([], refl)
  after_ends n (i ∷ more) =
      by_test (Parted (i ∷ more) []) (leb (size_behind line more) n)
      (λ fits. (i ∷ [], refl))
      (λ long. let r = after_ends n more in (i ∷ r.0, ap (λ (l : List Item). i ∷ l) r.1))

  -- an item before the stretch is not after it, as far as the bytes before and behind the stretch are not the same ones
  pub before_after : (n m : ℕ) (items : List Item) → n + m ≤ length (text_of line items)
      → Parted items (before line n items) (after line m items)
  unfolding before after
  before_after n m [] h = ([], refl)
  before_after n m (i ∷ more) h =
      by_test (λ (first : List Item). Parted (i ∷ more) first (after line m (i ∷ more))) (leb (size line i) n)
      (λ fits.
      let k = leb-true (size line i) n fits in
      let s = size_text i more in
      let r = before_after (n - size line i) m more (omega arith) in
      (r.0, rw (lt-leb (size_behind line more) m (omega arith)) (ap (λ (l : List Item). i ∷ l) r.1)))
      (λ long. after_ends m (i ∷ more))
