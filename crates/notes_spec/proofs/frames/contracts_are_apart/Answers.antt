use Rattle.notes_spec.proofs.FrameReadings.{contracts_are_apart}
use Rattle.notes_spec.proofs.frames.contracts_are_apart.Goals as goal

pub returns : goal.returns
returns c = contracts_are_apart
