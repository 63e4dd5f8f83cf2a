-- The number of each reason to refuse: RULES 10. Assumes nothing: these are definitions.
use Rattle.std.specs.Prelude.{ℕ, Result, Ok, Err}
use Rattle.base_refusals.specs.declared.Refusal.{Refusal}
use Rattle.base_refusals.specs.declared.Refusal.TheVariants as refusal

abbrev pub number : Refusal → ℕ
number refusal.Columns = 1
number refusal.Position = 2
number refusal.Strand = 3
number refusal.Phase = 4
number refusal.Attribute = 5
number refusal.Empty = 6
number refusal.Major = 7
number refusal.Minor = 8
number refusal.Patch = 9
number refusal.RegionNameMissing = 10
number refusal.RegionStartMissing = 11
number refusal.RegionStart = 12
number refusal.RegionEndMissing = 13
number refusal.RegionEnd = 14
number refusal.BuildSourceMissing = 15
number refusal.BuildNameMissing = 16
number refusal.Score = 17
number refusal.PhaseMissing = 18
number refusal.Key = 19
number refusal.Text = 20
number refusal.ValueKey = 21
number refusal.Sheet = 23
number refusal.TooLong = 24
number refusal.LineTooLong = 25
number refusal.Sum = 26
number refusal.Hold = 34

-- what an answer goes on to: its own refusal, or what more makes of its value
abbrev pub and_then : {A B : Type 0} → Result A Refusal → (A → Result B Refusal) → Result B Refusal
and_then (Ok x) more = more x
and_then (Err r) more = Err r
