-- `put_token`: a dot where there is no byte, or the token. Assumes nothing.
use native.Mathlib.Omega.{arith}
use mathlib.Core.Path.{◌≡◌, refl}
use mathlib.Core.List.{List, [], ◌∷◌}
use Prim.Native.Nat.{ℕ}
use lib.ListN.{length}
use Rattle.base_lists.specs.Bytes.{dot}
use Rattle.write_line.specs.Record.{score_column}
use Rattle.write_line.proofs.line.put_token.Goals as goal

missing : (t : List ℕ) → length t ≡ 0 → score_column t ≡ dot ∷ []
unfolding score_column
missing [] e = refl
missing (x ∷ t) e = absurd (omega arith)

there : (t : List ℕ) → (length t ≡ 0 → ⊥) → score_column t ≡ t
unfolding score_column
there [] e = absurd (e refl)
there (x ∷ t) e = refl

pub returns-then-token-eq0 : goal.returns-then-token-eq0
returns-then-token-eq0 g c = rw (missing c.args.token.now (omega (arith, c.if-token-eq0.true))) c.byte.ensures

pub returns-else-token-eq0 : goal.returns-else-token-eq0
returns-else-token-eq0 g c = rw (there c.args.token.now (λ e. omega (arith, e, c.if-token-eq0.false))) c.text.ensures
