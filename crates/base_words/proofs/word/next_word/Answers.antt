-- `next_word`: its start, and its end from there. Assumes nothing.
use Rattle.base_words.proofs.word.next_word.Goals as goal

pub returns : goal.returns
returns c = rw (c.find_space-end.ensures.first, c.find_ink-start.ensures.first)
