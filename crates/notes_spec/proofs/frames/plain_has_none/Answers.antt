use Rattle.notes_spec.proofs.FrameReadings.{plain_has_none}
use Rattle.notes_spec.proofs.frames.plain_has_none.Goals as goal

pub returns : goal.returns
returns c = plain_has_none
