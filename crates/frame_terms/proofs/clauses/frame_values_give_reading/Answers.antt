use Rattle.frame_terms.proofs.FrameValues.{frame_values_give_reading}
use Rattle.frame_terms.proofs.clauses.frame_values_give_reading.Goals as goal

pub returns : goal.returns
returns c = frame_values_give_reading
