use Rattle.answer_spec.proofs.FrameNames.{frames_are_named}
use Rattle.answer_spec.proofs.frames.frames_are_named.Goals as goal

pub returns : goal.returns
returns c = frames_are_named
