use Rattle.notes_spec.proofs.FrameReadings.{notes_are_framed}
use Rattle.notes_spec.proofs.frames.notes_are_framed.Goals as goal

pub returns : goal.returns
returns c = notes_are_framed
