use Rattle.frame_texts_spec.proofs.FramedSaid.{told_is_framed}
use Rattle.frame_texts_spec.proofs.laws.told_is_framed.Goals as goal

pub returns : goal.returns
returns c = told_is_framed
