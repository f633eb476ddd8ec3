use Rattle.frame_start.proofs.reads.cell_words.Goals as goal

pub returns : goal.returns
returns c = c.in_ok-words.ensures
