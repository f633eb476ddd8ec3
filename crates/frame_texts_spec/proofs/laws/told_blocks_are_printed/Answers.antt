use Rattle.frame_texts_spec.proofs.CallsSaid.{told_blocks_are_printed}
use Rattle.frame_texts_spec.proofs.laws.told_blocks_are_printed.Goals as goal

pub returns : goal.returns
returns c = told_blocks_are_printed
