-- Demand 3 (RULES 15.3) for items of any kind and any way of reading: what is read of the text of items where a stretch of it was replaced.
-- promise_demands says for which items and which reading this is demanded; proofs/Stretch.antt proves it of every sound writing and every
-- reading by lines. Assumes nothing: these are definitions.
use Rattle.std.specs.Prelude.{ℕ, ◌+◌, ◌≤◌, ◌≡◌, List, ◌∷◌, ◌++◌, length}
use Rattle.base_lists.specs.Bytes.{Every}
use Rattle.read_lines.specs.Lines.{lines, OneLine}
use Rattle.promise_survival.specs.Survivors.{lines_of, text_of, before, after}

-- ── what is written, and how it is read ───────────────────────────────────────────────────────

-- items, the line of each, which of them the writer accepts, and what it is for an item to read back from a line
pub record Writing : Type 1 where
  pub Item : Type 0
  pub line : Item → List ℕ
  pub Accepted : Item → Type 0
  pub ReadsBack : Item → List ℕ → Type 0

-- what has to be known of it: the line of an accepted item is one line, and the item reads back from it
pub record Sound (w : Writing) : Type 0 where
  pub one : (i : w.Item) → w.Accepted i → OneLine (w.line i)
  pub back : (i : w.Item) → w.Accepted i → w.ReadsBack i (w.line i)

-- each of these items reads back from its line
abbrev pub ReadBack : (w : Writing) → List w.Item → Type 0
ReadBack w items = Every (λ i. w.ReadsBack i (w.line i)) items

-- what is told of lines, be it the lines themselves, or something of each or of some; and what it is that this, and no more, is told of a
-- text
pub record Reading : Type 1 where
  pub Event : Type 0
  pub told : List (List ℕ) → List Event
  pub Reads : List ℕ → List Event → Type 0

-- what has to be known of it: lines are told one after the other, and of a text its lines are told
pub record ByLines (r : Reading) : Type 0 where
  pub in_a_row : (ls ms : List (List ℕ)) → r.told (ls ++ ms) ≡ r.told ls ++ r.told ms
  pub all_lines : (s : List ℕ) → r.Reads s (r.told (lines s))

-- ── what is demanded ──────────────────────────────────────────────────────────────────────────

module _ (w : Writing) (r : Reading) where
  open w use {Item, line, Accepted}
  open r use {Event, told, Reads}

  -- what is told of items whose lines are read as they were written
  abbrev pub told_of : List Item → List Event
  told_of items = told (lines_of line items)

  -- What is read of items whose text was a, a stretch, and b, and arrived as a, y and b: first the items that lie before the stretch, then
  -- what the damage left, last the items that lie after it. Each of these items reads back. None counts twice: the list of items is those
  -- before, some between, and those after.
  pub record Survive (items : List Item) (a y b : List ℕ) : Type 0 where
    pub damaged : List Event
    pub read : Reads (a ++ (y ++ b)) (told_of (before line (length a) items) ++ (damaged ++ told_of (after line (length b) items)))
    pub first_back : ReadBack w (before line (length a) items)
    pub last_back : ReadBack w (after line (length b) items)
    pub between : List Item
    pub parted : items ≡ before line (length a) items ++ (between ++ after line (length b) items)

  pub record Survival : Type 0 where
    -- the stretch x of the text is replaced by y
    pub survive : (items : List Item) → Every Accepted items → (a x b y : List ℕ) → text_of line items ≡ a ++ (x ++ b) → Survive items a y b
    -- nothing is replaced
    pub whole : (items : List Item) → Every Accepted items → Reads (text_of line items) (told_of items) × ReadBack w items
    -- "Each item": `before` leaves none out, since it begins with any items p that end within the first n bytes
    pub all_before : (p q : List Item) (n : ℕ) → length (text_of line p) ≤ n → (more : List Item) × (before line n (p ++ q) ≡ p ++ more)
    -- "so does each one": nor does `after`, since it ends with any items q that lie, with the line feed of an item i, within the last n
    -- bytes
    pub all_after : (p q : List Item) (i : Item) (n : ℕ) → 1 + length (text_of line q) ≤ n
        → (more : List Item) × (after line n (p ++ (i ∷ q)) ≡ more ++ q)
