-- `lay_decoded_section`: the count of the decoded text, and then that text, which is the text itself where it is no shorter. Assumes
-- nothing.
use mathlib.Core.Path.{◌≡◌, sym, ◌∙◌}
use Rattle.base_buffer.proofs.LaidLaws.{lays_then}
use Rattle.percent_coding.specs.Percent.{decoded}
use Rattle.percent_coding.proofs.PercentLaws.{decoded_same}
use Rattle.sheet_form.specs.Sheet.{section_of}
use Rattle.sheet_sections.proofs.lay_decoded_section.Goals as goal

pub returns-then-n-text : goal.returns-then-n-text
unfolding section_of
returns-then-n-text c =
    let same : (let s = c.args.text.now in decoded s ≡ s) = decoded_same _ (sym c.decoded_len-n.ensures.0 ∙ c.if-n-text.true) in
    rw (← c.decoded_len-n.ensures.0)
    (lays_then c.lay_count-from.ensures (rw (← same) at c.lay.ensures))

pub returns : goal.returns
unfolding section_of
returns c = rw (← c.decoded_len-n.ensures.0) (lays_then c.lay_count-from.ensures c.lay_decoded.ensures)
