-- `skipped_behind_return`: the part's run; or none, where no line feed comes first. Assumes nothing.
use Rattle.std.proofs.Common.{ℕ, ◌≡◌, Bool, true, false, List, [], ◌∷◌, refl, sym, ◌∙◌, get_or, arith}
use Rattle.std.specs.Prelude.{◌&&◌, eqb}
use Rattle.std.specs.List.{starts_with}
use borrow.Author.Tests.{eqb-true, eqb-false}
use Rattle.base_lists.specs.Bytes.{lf}
use Rattle.read_lines.proofs.BlankLaws.{run_return, run_no_feed}
use Rattle.read_parts.proofs.state.skipped_behind_return.Goals as goal

begins : (p : List ℕ) → starts_with eqb p (lf ∷ []) ≡ eqb lf (get_or p 0 0)
begins [] = refl
begins (x ∷ p) = go (eqb lf x)
  where
    go : (b : Bool) → b && true ≡ b
    go true = refl
    go false = refl

pub returns-then-starts_with : goal.returns-then-starts_with
returns-then-starts_with c =
    let p = c.args.part.now in
    let e = eqb-true lf (get_or p 0 0) (sym (begins p) ∙ sym c.starts_with.ensures.value ∙ c.if-starts_with.true) in
    omega (arith, c.past_blank.ensures, run_return p (sym e))

pub returns-else-starts_with : goal.returns-else-starts_with
returns-else-starts_with c =
    let p = c.args.part.now in
    let h = eqb-false lf (get_or p 0 0) (sym (begins p) ∙ sym c.starts_with.ensures.value ∙ c.if-starts_with.false) in
    omega (arith, run_no_feed p (λ e. h (sym e)))
