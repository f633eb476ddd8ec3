use Rattle.frame_terms.proofs.FrameAsked.{frame_asked_is_right}
use Rattle.frame_terms.proofs.clauses.frame_asked_is_right.Goals as goal

pub returns : goal.returns
returns c = frame_asked_is_right
