-- `put_columns`: the pieces of the line, one after another, up to the first that is not of the form. Assumes nothing.
use Rattle.sheet_form.specs.Sheet.{read_sheet}
use Rattle.sheet_form.proofs.PastLaws.{past_map, past_then, past_stop}
use Rattle.write_line.specs.Record.{columns}
use Rattle.write_line.proofs.line.put_columns.Goals as goal

pub returns-in_err-source : goal.returns-in_err-source
unfolding read_sheet
returns-in_err-source g c = rw c.from_residual.ensures (past_stop _ c.put_text.ensures c.in_err-source.was)

pub returns-in_err-ty : goal.returns-in_err-ty
unfolding read_sheet
returns-in_err-ty g c =
    rw c.from_residual-in_err-ty.ensures
    (past_then _ c.put_text.ensures c.in_ok-source.was (λ n x. past_stop _ c.put_led.ensures c.in_err-ty.was))

pub returns-in_err-score : goal.returns-in_err-score
unfolding read_sheet
returns-in_err-score g c =
    rw c.from_residual-in_err-score.ensures
    (past_then _ c.put_text.ensures c.in_ok-source.was
    (λ n x. past_then _ c.put_led.ensures c.in_ok-ty.was (λ o y. past_stop _ c.put_led-2.ensures c.in_err-score.was)))

pub returns-in_err-attributes : goal.returns-in_err-attributes
unfolding read_sheet
returns-in_err-attributes g c =
    rw c.from_residual-in_err-attributes.ensures
    (past_then _ c.put_text.ensures c.in_ok-source.was
    (λ n x. past_then _ c.put_led.ensures c.in_ok-ty.was
    (λ o y. past_then _ c.put_led-2.ensures c.in_ok-score.was (λ t z. past_stop _ c.put_score.ensures c.in_err-attributes.was))))

pub returns : goal.returns
unfolding read_sheet columns
returns g c =
    let joins = g.S.Sink.laws.joins in
    let strand = rw c.strand_byte.ensures at c.put_sign.ensures in
    let phase = rw c.phase_byte.ensures at c.put_sign-2.ensures in
    past_then _ c.put_text.ensures c.in_ok-source.was
    (λ n x. past_then _ c.put_led.ensures c.in_ok-ty.was
    (λ o y. past_then _ c.put_led-2.ensures c.in_ok-score.was
    (λ t z. past_then _ c.put_score.ensures c.in_ok-attributes.was
    (λ k u. past_map (λ l. record { name = n; source = o; type = t; score = k; attributes = l })
    (λ l v. joins _ _ _ _ _ x (joins _ _ _ _ _ y (joins _ _ _ _ _ z (joins _ _ _ _ _ c.put_number.ensures (joins _ _ _ _ _ c.put_number-2.ensures
    (joins _ _ _ _ _ u (joins _ _ _ _ _ strand (joins _ _ _ _ _ phase v))))))))
    c.put_column.ensures))))
