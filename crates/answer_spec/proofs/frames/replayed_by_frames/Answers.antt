use Rattle.answer_spec.proofs.Wholes.{replayed_by_frames}
use Rattle.answer_spec.proofs.frames.replayed_by_frames.Goals as goal

pub returns : goal.returns
returns c = replayed_by_frames
