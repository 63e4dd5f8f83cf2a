-- The cursor that C gets from `gff3_next_line` (RULES 16.2): it is never beyond the text, and where no line is left another call with it
-- answers the same. Assumes nothing.
use Prim.Native.Nat.{ℕ, ◌≤◌}
use native.Mathlib.Omega.{arith}
use mathlib.Core.Path.{◌≡◌}
use mathlib.Core.List.{List}
use lib.ListN.{length}
use Rattle.std.specs.Prelude.{Option, Some, None}
use Rattle.base_scan.specs.declared.place.Place.{Place}
use Rattle.read_lines.specs.declared.Cursor.{Cursor}
use Rattle.read_lines.specs.Step.{next_line}
use Rattle.read_lines.proofs.StepLaws.{Meets, line_meets, done_at_end}
use Rattle.c_lines.specs.Line.{cursor_of_c, c_line, c_next_line}

module _ (s : List ℕ) (at : ℕ) where
  -- the next cursor is never beyond the text
  pub line_next_inside : (c_next_line s at).next ≤ length s
  line_next_inside = go (next_line s (cursor_of_c at)) (line_meets s (cursor_of_c at))
    where
      go : (r : Option (Place × Cursor)) → Meets s (cursor_of_c at) r → (c_line (length s) r).next ≤ length s
      go None m = omega arith
      go (Some (place, next)) m = m.within

  -- once done, done: the next call answers the same
  pub line_done_again : (c_next_line s at).done ≡ 1 → c_next_line s (c_next_line s at).next ≡ c_next_line s at
  line_done_again = go (next_line s (cursor_of_c at))
    where
      go : (r : Option (Place × Cursor)) → (c_line (length s) r).done ≡ 1 → c_next_line s (c_line (length s) r).next ≡ c_line (length s) r
      go None h = rw (done_at_end s)
      go (Some (place, next)) h = absurd (omega arith)
