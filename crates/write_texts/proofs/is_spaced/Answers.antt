-- `is_spaced` answers whether the text holds white space. Assumes nothing.
use Rattle.base_words.specs.Word.{is_space}
use Rattle.write_texts.proofs.TextLaws.{holds_seek}
use Rattle.write_texts.proofs.is_spaced.Goals as goal

pub returns : goal.returns
returns c = rw (c.find_space.ensures.first, holds_seek is_space)
