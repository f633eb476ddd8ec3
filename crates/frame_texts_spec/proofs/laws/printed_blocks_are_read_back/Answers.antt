use Rattle.frame_texts_spec.proofs.CallsBack.{printed_blocks_are_read_back}
use Rattle.frame_texts_spec.proofs.laws.printed_blocks_are_read_back.Goals as goal

pub returns : goal.returns
returns c = printed_blocks_are_read_back
