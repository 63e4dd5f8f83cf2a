-- A section of the sheet that was met at a cursor is passed. Assumes nothing.
use mathlib.Core.Path.{◌≡◌, refl}
use mathlib.Core.List.{List}
use Prim.Native.Nat.{ℕ}
use lib.ListN.{drop}
use Rattle.std.specs.Prelude.{Some, None}
use Rattle.base_scan.specs.declared.place.Place.{Place}
use Rattle.base_scan.specs.Part.{text_at}
use Rattle.sheet_form.specs.Reader.{Taken, no_form}
use Rattle.sheet_form.specs.Sheet.{section}
use Rattle.sheet_form.specs.Inner.Past.{Passes, stopped, past}
use Rattle.sheet_form.proofs.CursorLaws.{SectionHands}

pub passes_section : {P : List ℕ → Type 0} {s : List ℕ} {at : ℕ} {place : Place} → SectionHands s at place → P (text_at place s)
    → Passes P s (Some place.end) (section (drop at s))
passes_section h p = rw h.read (past h.inside refl p)

-- and where there is none
pub passes_none : {A : Type 0} {P : A → Type 0} {s : List ℕ} {m : Taken A} → m ≡ no_form → Passes P s None m
passes_none e = rw e stopped
