-- A refused call hands out no field: each answer of the library, a case at a time. Assumes nothing.
use Prim.Native.Nat.{ℕ, zero, suc}
use native.Mathlib.Omega.{arith}
use Rattle.std.specs.Prelude.{Option, Some, None, Ok, Err}
use mathlib.Core.Path.{◌≡◌, refl}
use mathlib.Core.Logic.{◌≢◌}
use mathlib.Core.List.{List, [], ◌∷◌}
use lib.Dec.{ltb}
use lib.ListN.{replicate}
use Rattle.base_lists.proofs.BoolLaws.{by_test}
use Rattle.base_scan.specs.declared.place.Place.{Place}
use Rattle.base_buffer.specs.declared.WriteError.TheVariants.{Refused, NoRoom}
use Rattle.base_buffer.specs.Answer.{number, needed}
use Rattle.read_numbers.specs.Number.{most64}
use Rattle.read_lines.specs.Lines.{lines}
use Rattle.read_parts.specs.declared.Came.{Came}
use Rattle.read_parts.specs.declared.Came.TheVariants as came
use Rattle.read_parts.specs.Calls.{came_refusal}
use Rattle.read_report.specs.Report.{nothing, counted, morning}
use Rattle.c_lines.specs.Line.{c_key_value, c_directive}
use Rattle.c_parts.specs.Part.{has_line, line_length}
use Rattle.c_directives.specs.Directive.{c_parts}
use Rattle.c_record.specs.Record.{score_missing, score_start, score_end}
use Rattle.c_report.specs.Report.{c_morning}
use Rattle.promise_calls.specs.NoField.{Zeros, Bare, counts, NoField}

-- as many zeros as are asked for
zeros : (n : ℕ) → Zeros (replicate n 0)
zeros zero = tt
zeros (suc n) = (refl, zeros n)

-- what came of a line of a text in parts
came_refused : (x : Came) → came_refusal x ≢ 0 → Zeros (has_line x ∷ line_length x ∷ [])
came_refused (came.Line n) h = absurd (h refl)
came_refused came.TooLong h = zeros 2
came_refused came.NoLine h = absurd (h refl)

came_number : (x : Came) → came_refusal x ≢ 0 → came_refusal x ≢ 25 → ⊥
came_number (came.Line n) h k = h refl
came_number came.TooLong h k = k refl
came_number came.NoLine h k = h refl

came_no_line : (x : Came) → has_line x ≡ 0 → Zeros (line_length x ∷ [])
came_no_line (came.Line n) h = absurd (omega arith)
came_no_line came.TooLong h = zeros 1
came_no_line came.NoLine h = zeros 1

-- the parts of a version, a case at a time
module _ (refused major : ℕ) where
  parts_refused : (minor patch : Option ℕ) → (c_parts refused major minor patch).refused ≡ refused
  parts_refused None patch = refl
  parts_refused (Some minor) None = refl
  parts_refused (Some minor) (Some patch) = refl

  minor_absent : (minor patch : Option ℕ) → let r = c_parts refused major minor patch in r.parts ≡ 1 → Zeros (r.minor ∷ r.patch ∷ [])
  minor_absent None patch h = zeros 2
  minor_absent (Some minor) None h = absurd (omega arith)
  minor_absent (Some minor) (Some patch) h = absurd (omega arith)

  patch_absent : (minor patch : Option ℕ) → let r = c_parts refused major minor patch in r.parts ≡ 2 → Zeros (r.patch ∷ [])
  patch_absent None patch h = absurd (omega arith)
  patch_absent (Some minor) None h = zeros 1
  patch_absent (Some minor) (Some patch) h = absurd (omega arith)

-- a score that is missing has no place
no_place : (x : Option Place) → score_missing x ≢ 0 → Zeros (score_start x ∷ score_end x ∷ [])
no_place None h = zeros 2
no_place (Some place) h = absurd (h refl)

-- a refused report counts nothing
report_refused : (s : List ℕ) → (c_morning (morning s)).refused ≢ 0 → Zeros (counts (c_morning (morning s)))
unfolding morning
report_refused s =
    by_test (λ m. (c_morning m).refused ≢ 0 → Zeros (counts (c_morning m))) (ltb most64 (counted nothing (lines s)).totals.sum) (λ e h. zeros 76)
    (λ e h. absurd (h refl))

-- of a directive, its value, and itself
value_absent : Bare c_directive (λ r. r.has_value ≡ 0) (λ r. r.value_start ∷ r.value_end ∷ [])
value_absent (Some d) h = of_value d.value h
  where
    of_value : (value : Option Place) → let r = c_key_value d.key value in r.has_value ≡ 0 → Zeros (r.value_start ∷ r.value_end ∷ [])
    of_value (Some p) h = absurd (omega arith)
    of_value None h = zeros 2
value_absent None h = zeros 2

no_directive : Bare c_directive (λ r. r.is ≡ 0) (λ r. r.key_start ∷ r.key_end ∷ r.has_value ∷ r.value_start ∷ r.value_end ∷ [])
no_directive (Some d) h = of_value d.value h
  where
    of_value : (value : Option Place) → let r = c_key_value d.key value in r.is ≡ 0
        → Zeros (r.key_start ∷ r.key_end ∷ r.has_value ∷ r.value_start ∷ r.value_end ∷ [])
    of_value (Some p) h = absurd (omega arith)
    of_value None h = absurd (omega arith)
no_directive None h = zeros 5

pub no_field : NoField
no_field =
    record {
      position = elim [ Ok n ↦ λ h. absurd (h refl) | Err r ↦ λ h. zeros 1 ];
      strand = elim [ Ok s ↦ λ h. absurd (h refl) | Err r ↦ λ h. zeros 1 ];
      phase = elim [ Ok p ↦ λ h. absurd (h refl) | Err r ↦ λ h. zeros 1 ];
      score =
          elim [
            | Ok None ↦ λ h. absurd (h refl)
            | Ok (Some p) ↦ λ h. absurd (h refl)
            | Err r ↦ λ h. zeros 3
          ];
      index = elim [ Ok b ↦ λ h. absurd (h refl) | Err r ↦ λ h. zeros 8 ];
      place = elim [ Ok p ↦ λ h. absurd (h refl) | Err r ↦ λ h. zeros 2 ];
      whole = elim [ Ok r ↦ λ h. absurd (h refl) | Err e ↦ λ h. zeros 15 ];
      field = λ here.
          elim [
            | Ok (Some f) ↦ λ h. absurd (h refl)
            | Ok None ↦ λ h. absurd (h refl)
            | Err r ↦ λ h. zeros 5
          ];
      found = elim [ Ok (Some p) ↦ λ h. absurd (h refl) | Ok None ↦ λ h. absurd (h refl) | Err r ↦ λ h. zeros 3 ];
      part = λ was. elim [ Ok p ↦ came_refused p.came | Err r ↦ λ h. zeros 2 ];
      part_state = λ was. elim [ Ok p ↦ λ h k. absurd (came_number p.came h k) | Err r ↦ λ h k. refl ];
      part_taken = λ was. elim [ Ok p ↦ λ h. absurd (came_number p.came h.0 h.1) | Err r ↦ λ h. zeros 1 ];
      version =
          elim [
            | Ok v ↦ λ h. absurd (h (parts_refused 0 v.major v.minor v.patch))
            | Err r ↦ λ h. zeros 4
          ];
      region = elim [ Ok r ↦ λ h. absurd (h refl) | Err e ↦ λ h. zeros 4 ];
      build = elim [ Ok b ↦ λ h. absurd (h refl) | Err e ↦ λ h. zeros 4 ];
      judged = elim [ Ok (numbers, n) ↦ λ h. absurd (h refl) | Err r ↦ λ h. zeros 5 ];
      unfolded =
          elim [
            | Ok (numbers, n) ↦ λ h. absurd (h refl)
            | Err (Refused r) ↦ λ h. zeros 4
            | Err (NoRoom n) ↦ λ h. zeros 4
          ];
      unfolded_length =
          elim [
            | Ok (numbers, n) ↦ λ h. absurd (h.0 refl)
            | Err (Refused r) ↦ λ h. zeros 1
            | Err (NoRoom n) ↦ λ h. absurd (h.1 refl)
          ];
      report = report_refused;
      written_length =
          elim [
            | Ok n ↦ λ h. absurd (h.0 refl)
            | Err (Refused r) ↦ λ h. zeros 1
            | Err (NoRoom n) ↦ λ h. absurd (h.1 refl)
          ];
      line_done = λ here. elim [ Some (p, c) ↦ λ h. absurd (h refl) | None ↦ λ h. zeros 2 ];
      field_done = λ here.
          elim [
            | Ok (Some f) ↦ λ h. absurd (h refl)
            | Ok None ↦ λ h. zeros 5
            | Err r ↦ λ h. absurd (h refl)
          ];
      value_done = λ here. elim [ Some (p, c) ↦ λ h. absurd (h refl) | None ↦ λ h. zeros 2 ];
      whole_score_missing = elim [ Ok r ↦ no_place r.score | Err e ↦ λ h. absurd (h refl) ];
      score_missing =
          elim [
            | Ok None ↦ λ h. zeros 2
            | Ok (Some p) ↦ λ h. absurd (h refl)
            | Err r ↦ λ h. zeros 2
          ];
      tag_absent = elim [ Ok (Some p) ↦ λ h. absurd (omega arith) | Ok None ↦ λ h. zeros 2 | Err r ↦ λ h. zeros 2 ];
      minor_absent =
          elim [
            | Ok v ↦ minor_absent 0 v.major v.minor v.patch
            | Err r ↦ λ h. zeros 2
          ];
      patch_absent =
          elim [
            | Ok v ↦ patch_absent 0 v.major v.minor v.patch
            | Err r ↦ λ h. zeros 1
          ];
      value_absent = value_absent;
      no_line = λ was. elim [ Ok p ↦ came_no_line p.came | Err r ↦ λ h. zeros 1 ];
      no_comment = elim [ Some p ↦ λ h. absurd (omega arith) | None ↦ λ h. zeros 2 ];
      no_directive = no_directive;
    }
