use Rattle.answer_spec.proofs.FrameNames.{frame_is_named}
use Rattle.answer_spec.proofs.frames.frame_is_named.Goals as goal

pub returns : goal.returns
returns c = frame_is_named
