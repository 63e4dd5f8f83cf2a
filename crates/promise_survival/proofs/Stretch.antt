-- Items of which a stretch was replaced: what is read of them, whatever they are and however a text is read. Assumes nothing.
use Prim.Native.Nat.{ℕ, ◌+◌, ◌≤◌}
use native.Mathlib.Omega.{arith}
use mathlib.Core.Path.{◌≡◌, sym, ap, ◌∙◌, subst}
use mathlib.Core.List.{List, ◌++◌, append_assoc}
use lib.ListN.{length, length-append}
use Rattle.base_lists.specs.Bytes.{Every}
use Rattle.base_lists.proofs.EveryLaws.{every_map, every_each, every_parts}
use Rattle.read_lines.specs.Lines.{lines, OneLine}
use Rattle.read_lines.proofs.LinesLaws.{lines_of_text}
use Rattle.promise_survival.specs.Survivors.{lines_of, text_of, before, after}
use Rattle.promise_survival.specs.Survival.{Writing, Reading, Sound, ByLines, ReadBack, Survive, Survival}
use Rattle.promise_survival.proofs.SurvivorLaws.{before_read, after_read, before_all, after_all, before_after}

module _ (w : Writing) (r : Reading) (sound : Sound w) (by_lines : ByLines r) where
  open w use {Item, line, Accepted, ReadsBack}
  open r use {told, Reads}

  each_one : (items : List Item) → Every Accepted items → Every OneLine (lines_of line items)
  each_one items h = every_map line Accepted OneLine sound.one items h

  each_back : (items : List Item) → Every Accepted items → ReadBack w items
  each_back items h = every_each Accepted (λ i. ReadsBack i (line i)) sound.back items h

  -- of a text its lines are told, whichever they are
  reads : (s : List ℕ) {ls : List (List ℕ)} → lines s ≡ ls → Reads s (told ls)
  reads s e = subst (λ (m : List (List ℕ)). Reads s (told m)) e (by_lines.all_lines s)

  items_survive : (items : List Item) → Every Accepted items → (a x b y : List ℕ) → text_of line items ≡ a ++ (x ++ b)
      → Survive w r items a y b
  items_survive items accepted a x b y cut =
      let first = before line (length a) items in
      let last = after line (length b) items in
      let one = each_one items accepted in
      let f = before_read line items one a (x ++ b) cut in
      let l = after_read line items one (a ++ x) b (cut ∙ sym (append_assoc a x b)) (f.0 ++ y) in
      let room : length a + length b ≤ length (text_of line items) = omega (arith, simp length-append at (ap length cut)) in
      let parted = before_after line (length a) (length b) items room in
      let all_back = subst (ReadBack w) parted.1 (each_back items accepted) in
      let back = every_parts (λ i. ReadsBack i (line i)) first parted.0 last all_back in
      let read : lines (a ++ (y ++ b)) ≡ lines_of line first ++ (l.0 ++ lines_of line last) =
      f.1 (y ++ b) ∙ rw (← append_assoc f.0 y b, l.1) in
      record {
        damaged = told l.0;
        read = rw (← by_lines.in_a_row, ← by_lines.in_a_row) (reads (a ++ (y ++ b)) read);
        first_back = back.0;
        last_back = back.1;
        between = parted.0;
        parted = parted.1;
      }

  pub survival : Survival w r
  survival =
      record {
        survive = items_survive;
        whole = λ items h. (reads (text_of line items) (lines_of_text (lines_of line items) (each_one items h)), each_back items h);
        all_before = before_all line;
        all_after = after_all line;
      }
