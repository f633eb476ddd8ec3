use Rattle.frame_terms.proofs.FrameWalkable.{frame_unrolling_is_walkable}
use Rattle.frame_terms.proofs.clauses.frame_unrolling_is_walkable.Goals as goal

pub returns : goal.returns
returns c = frame_unrolling_is_walkable
