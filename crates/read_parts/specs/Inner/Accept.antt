-- What the test of a hold and a state answers. Assumes nothing: these are definitions.
use Rattle.std.specs.Prelude.{ℕ, cond, Result, Ok, Err}
use Rattle.base_refusals.specs.declared.Refusal.{Refusal}
use Rattle.base_refusals.specs.declared.Refusal.TheVariants as refusal
use Rattle.read_parts.specs.Calls.{refuses}

abbrev pub accepts : ℕ → ℕ → Result (Unit {0}) Refusal
accepts held room = cond (refuses held room) (Err refusal.Hold) (Ok tt)
