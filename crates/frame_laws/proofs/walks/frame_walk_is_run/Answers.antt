use Rattle.frame_laws.proofs.FrameWalks.{frame_walk_is_run}
use Rattle.frame_laws.proofs.walks.frame_walk_is_run.Goals as goal

pub returns : goal.returns
returns c = frame_walk_is_run
