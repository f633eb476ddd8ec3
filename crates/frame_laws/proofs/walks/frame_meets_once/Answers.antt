use Rattle.frame_laws.proofs.WalkPlaces.{frame_meets_once}
use Rattle.frame_laws.proofs.walks.frame_meets_once.Goals as goal

pub returns : goal.returns
returns c = frame_meets_once
