use Rattle.frame_texts_spec.proofs.PartsBack.{printed_is_read_back}
use Rattle.frame_texts_spec.proofs.laws.printed_is_read_back.Goals as goal

pub returns : goal.returns
returns c = printed_is_read_back
