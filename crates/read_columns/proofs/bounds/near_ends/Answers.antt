-- `near_ends`: the mask without its lowest digit seven times, and one past the lowest digit of each. Assumes nothing.
use Rattle.std.proofs.Common.{◌≡◌, refl}
use Rattle.read_columns.specs.Inner.Near.{lowered}
use Rattle.read_columns.proofs.NearLaws.{lowered_next, past_lowered}
use Rattle.read_columns.proofs.bounds.near_ends.Goals as goal

pub returns : goal.returns
unfolding lowered
returns c =
    let m = c.args.m1 in
    let e₀ : m ≡ lowered 0 m = refl in
    let e₁ = lowered_next 0 m c.lower-m2.ensures e₀ in
    let e₂ = lowered_next 1 m c.lower-m3.ensures e₁ in
    let e₃ = lowered_next 2 m c.lower-m4.ensures e₂ in
    let e₄ = lowered_next 3 m c.lower-m5.ensures e₃ in
    let e₅ = lowered_next 4 m c.lower-m6.ensures e₄ in
    let e₆ = lowered_next 5 m c.lower-m7.ensures e₅ in
    let e₇ = lowered_next 6 m c.lower-m8.ensures e₆ in
    rw (
      past_lowered 0 m c.past.ensures e₀,
      past_lowered 1 m c.past-2.ensures e₁,
      past_lowered 2 m c.past-3.ensures e₂,
      past_lowered 3 m c.past-4.ensures e₃,
      past_lowered 4 m c.past-5.ensures e₄,
      past_lowered 5 m c.past-6.ensures e₅,
      past_lowered 6 m c.past-7.ensures e₆,
      past_lowered 7 m c.past-8.ensures e₇,
    )
