-- What a line is found to be: RULES 17.1. A directive or a comment by its first bytes (RULES 2.1), and any other line as unfolding it with
-- room enough judges it (RULES 9.3). Assumes nothing: these are definitions.
use Rattle.std.specs.Prelude.{ℕ, ◌≤◌, ◌≡◌, true, Result, Ok, Err, List, [], ◌∷◌}
use Rattle.base_lists.specs.Bytes.{among}
use Rattle.base_refusals.specs.declared.Refusal.{Refusal}
use Rattle.base_refusals.specs.Refusal.{number}
use Rattle.read_numbers.specs.Number.{most64}
use Rattle.read_kind.specs.declared.kind.Kind.{Kind}
use Rattle.read_kind.specs.declared.kind.Kind.TheVariants as kinds
use Rattle.read_kind.specs.Kind.{kind}
use Rattle.read_judge.specs.declared.judging.Numbers.{Numbers}
use Rattle.read_judge.specs.Judge.{judged}
use Rattle.read_verdict.specs.declared.Verdict.{Verdict}
use Rattle.read_verdict.specs.declared.Verdict.TheVariants.{Directive, Comment, Record, Refused}

-- of a line of kind record
abbrev pub by_judge : Result (Numbers × ℕ) Refusal → Verdict
by_judge (Ok (numbers, length)) = Record numbers
by_judge (Err r) = Refused r

-- of a line of any kind
abbrev pub by_kind : Kind → List ℕ → Verdict
by_kind kinds.Directive s = Directive
by_kind kinds.Comment s = Comment
by_kind kinds.Record s = by_judge (judged s)

unfoldable pub verdict : List ℕ → Verdict
verdict s = by_kind (kind s) s

-- the numbers by which a line is refused, in their order: 22 cannot come with room enough
abbrev pub refusals : List ℕ
refusals = 24 ∷ 1 ∷ 2 ∷ 17 ∷ 3 ∷ 4 ∷ 5 ∷ []

-- a position, as a column gives it: from 1 to 18446744073709551615
abbrev pub Position : ℕ → Type 0
Position n = (1 ≤ n) × (n ≤ most64)

-- what is known of a verdict, whatever the line
abbrev pub Sound : Verdict → Type 0
Sound Directive = Unit {0}
Sound Comment = Unit {0}
Sound (Record numbers) = Position numbers.start × Position numbers.end
Sound (Refused r) = among refusals (number r) ≡ true
