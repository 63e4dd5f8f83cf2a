-- `put_escape`: three bytes, one after the other. Assumes nothing.
use Prim.Native.Nat.{◌/◌, ◌%◌}
use native.Mathlib.Omega.{arith}
use mathlib.Core.Path.{◌≡◌, ap, ◌∙◌}
use Rattle.percent_coding.specs.Percent.{hex_digit, escape}
use Rattle.percent_encode.proofs.put.put_escape.Goals as goal

pub returns : goal.returns
unfolding escape
returns g c =
    let joins = g.S.Sink.laws.joins in
    let high : c.hex_digit.result ≡ hex_digit (c.args.b / 16) = c.hex_digit.ensures ∙ ap hex_digit (omega arith) in
    let low : c.hex_digit-2.result ≡ hex_digit (c.args.b % 16) = c.hex_digit-2.ensures ∙ ap hex_digit (omega arith) in
    rw (← high, ← low) (joins _ _ _ _ _ c.byte.ensures (joins _ _ _ _ _ c.byte-2.ensures c.byte-3.ensures))
