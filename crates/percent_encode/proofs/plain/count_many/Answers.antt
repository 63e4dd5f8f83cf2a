-- `count_many`: what is counted, and what is to count from the next window on, are the whole. Assumes nothing.
use Prim.Native.Nat.{◌+◌, ◌*◌, ◌/◌, ◌<◌}
use native.Mathlib.Omega.{arith}
use mathlib.Core.Path.{◌≡◌}
use lib.ListN.{length}
use Rattle.percent_sets.specs.Sets.{escapes}
use Rattle.percent_sets.specs.declared.Set.TheVariants.{Attribute}
use Rattle.percent_encode.proofs.WindowLaws.{window_at, count_on}
use Rattle.percent_encode.proofs.plain.count_many.Goals as goal

pub loop-window-init : goal.loop-window-init
loop-window-init c = (omega arith, omega arith)

pub overflow_add-n : goal.overflow_add-n
overflow_add-n c = omega (arith, c.count_16-n.ensures, c.as_chunks.ensures)

pub loop-window-preserved : goal.loop-window-preserved
loop-window-preserved c =
    let s = c.args.s.now in
    let i = c.loop-window.window-index in
    let here : i < length s / 16 = omega (arith, c.as_chunks.ensures.front_len) in
    let told = rw (c.as_chunks.ensures.front, window_at 16 (length s / 16) s i here) at c.count_16-n.ensures in
    let next : i * 16 + 16 ≡ (i + 1) * 16 = omega arith in
    let more = rw next at (count_on (escapes Attribute) (i * 16) 16 s) in
    (omega arith, omega arith)

pub returns : goal.returns
returns c =
    let end : c.loop-window.window-index ≡ length c.args.s.now / 16 = omega (arith, c.as_chunks.ensures.front_len) in
    let told = rw (c.as_chunks.ensures.back, ← end) at c.count_escaped.ensures in
    (omega arith, omega (arith, c.as_chunks.ensures.back_len))
