use Rattle.answer_spec.proofs.FrameNames.{no_frame_named}
use Rattle.answer_spec.proofs.frames.no_frame_named.Goals as goal

pub returns : goal.returns
returns c = no_frame_named
