use Rattle.notes_spec.proofs.FrameReadings.{one_frame_reading}
use Rattle.notes_spec.proofs.frames.one_frame_reading.Goals as goal

pub returns : goal.returns
returns c = one_frame_reading
