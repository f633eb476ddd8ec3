use Rattle.frame_texts_spec.proofs.Blockless.{blockless_is_framed}
use Rattle.frame_texts_spec.proofs.laws.blockless_is_framed.Goals as goal

pub returns : goal.returns
returns c = blockless_is_framed
