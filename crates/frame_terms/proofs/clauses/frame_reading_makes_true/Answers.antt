use Rattle.frame_terms.proofs.FrameValues.{frame_reading_makes_true}
use Rattle.frame_terms.proofs.clauses.frame_reading_makes_true.Goals as goal

pub returns : goal.returns
returns c = frame_reading_makes_true
