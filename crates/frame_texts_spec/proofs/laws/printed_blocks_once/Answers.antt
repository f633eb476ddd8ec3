use Rattle.frame_texts_spec.proofs.CallsSaid.{printed_blocks_once}
use Rattle.frame_texts_spec.proofs.laws.printed_blocks_once.Goals as goal

pub returns : goal.returns
returns c = printed_blocks_once
