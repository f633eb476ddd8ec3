use Rattle.unroller.proofs.FrameFirst.{points_are_of_segments}
use Rattle.unroller.proofs.laws.points_are_of_segments.Goals as goal

pub returns : goal.returns
returns c = points_are_of_segments
