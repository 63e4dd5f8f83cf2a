-- A step of the walk over column 9 (RULES 5.3), as a function of the column and the cursor alone; and steps in a row. Assumes nothing:
-- these are definitions.
use Rattle.std.specs.Prelude.{ℕ, zero, suc, ◌+◌, min, cond, List, eqb, leb, length, Option, Some, None, Result, Ok, Err}
use Rattle.base_lists.specs.Bytes.{semicolon, equals}
use Rattle.base_refusals.specs.declared.Refusal.{Refusal}
use Rattle.base_refusals.specs.declared.Refusal.TheVariants as refusal
use Rattle.base_words.specs.Same.{is_dot}
use Rattle.base_scan.specs.Find.{found}
use Rattle.base_scan.specs.Part.{text_at}
use Rattle.read_attributes.specs.declared.field.Field.{Field}
use Rattle.read_attributes.specs.Attributes.{Walk, done, refused, then}

-- the attribute that begins at a cursor and whose `=` is at e: the next cursor is one past its `;`, or the end
abbrev pub field_to : List ℕ → ℕ → ℕ → Field
field_to s at e =
    record {
      tag = record { start = at; end = e };
      value = record { start = e + 1; end = found semicolon (e + 1) s };
      next = min (found semicolon (e + 1) s + 1) (length s);
    }

-- none, which is done, where the column is `.`, and at the end and beyond it; refused, by number 5, where no `=` is left
unfoldable pub next_field : List ℕ → ℕ → Result (Option Field) Refusal
next_field s at =
    cond (is_dot s) (Ok None) (cond (leb (length s) at) (Ok None)
    (cond (eqb (found equals at s) (length s)) (Err refusal.Attribute) (Ok (Some (field_to s at (found equals at s))))))

-- what comes of an answer: the attribute as it stands, and what is met from the next cursor on
abbrev pub field_then : List ℕ → Result (Option Field) Refusal → (ℕ → Walk) → Walk
field_then s (Ok None) more = done
field_then s (Err r) more = refused
field_then s (Ok (Some field)) more = then (text_at field.tag s) (text_at field.value s) (more field.next)

-- what n steps in a row meet from a cursor on
unfoldable pub field_steps : ℕ → List ℕ → ℕ → Walk
field_steps zero s at = done
field_steps (suc n) s at = field_then s (next_field s at) (field_steps n s)
