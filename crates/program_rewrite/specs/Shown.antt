-- The text that the answer for a line stands for. Assumes nothing: these are definitions.
use Rattle.std.specs.Prelude.{ℕ, List}
use Rattle.base_scan.specs.Part.{part}
use Rattle.program_rewrite.specs.declared.line.Answer.{Answer}
use Rattle.program_rewrite.specs.declared.line.Answer.TheVariants.{AsRead, Laid}

-- the line s itself, or so many bytes of the line buffer d
abbrev pub shown_for : Answer → List ℕ → List ℕ → List ℕ
shown_for AsRead s d = s
shown_for (Laid n) s d = part 0 n d
