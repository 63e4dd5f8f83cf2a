-- What a buffer holds that a page was laid over. Assumes nothing.
use native.Mathlib.Omega.{arith}
use mathlib.Core.Path.{◌≡◌, sym, ◌∙◌}
use mathlib.Core.List.{List}
use Prim.Native.Nat.{ℕ, min}
use lib.ListN.{length}
use Rattle.base_buffer.specs.Laid.{Lays}
use Rattle.base_buffer.proofs.LaidLaws.{left_start}
use Rattle.base_sink.specs.declared.Page.{Page}
use Rattle.base_sink.specs.Sink.{PageTook}

-- d being what is left in the buffer, where the page is still over it
pub page_lays : {text d : List ℕ} {p q : Page} → p.at ≡ 0 → PageTook text p q → (p.out.ghost_name ≡ q.out.ghost_name → d ≡ q.out.now)
    → Lays text p.out.now 0 d q.at
page_lays start took kept =
    record { left = kept (sym took.same) ∙ (rw start at took.left); end = omega (arith, took.end, start) }

-- so from any place on: one past the buffer's end counts as the end
pub page_lays_from : {text d : List ℕ} {p q : Page} (at : ℕ) → p.at ≡ min at (length p.out.now) → PageTook text p q
    → (p.out.ghost_name ≡ q.out.ghost_name → d ≡ q.out.now) → Lays text p.out.now at d q.at
page_lays_from {text} {d} {p} at from took kept =
    let clipped = left_start text p.out.now at in
    record {
      left = kept (sym took.same) ∙ (rw from at took.left) ∙ sym clipped.left;
      end = omega (arith, took.end, from);
    }
