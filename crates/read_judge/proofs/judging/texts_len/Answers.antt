-- `texts_len`: four counts, three decoded texts and the score. Assumes nothing.
use native.Mathlib.Omega.{arith}
use Rattle.read_judge.specs.Judge.{unfolded}
use Rattle.read_judge.proofs.judging.texts_len.Goals as goal

pub returns : goal.returns
unfolding unfolded
returns c =
    let own = c.requires.0 in
    let e₁ = rw (c.text_in-name_text.ensures.text, own) at c.decoded_len-name.ensures.0 in
    let e₂ = rw (c.text_in-source_text.ensures.text, own) at c.decoded_len-source.ensures.0 in
    let e₃ = rw (c.text_in-ty_text.ensures.text, own) at c.decoded_len-ty.ensures.0 in
    let e₄ = rw (c.text_in.ensures.text, own) at c.score-score.ensures.text in
    (rw (← e₁, ← e₂, ← e₃, ← e₄) (omega arith), omega arith)
