use Rattle.frame_laws.proofs.FewSteps.{few_points_end_segments}
use Rattle.frame_laws.proofs.segments.few_points_end_segments.Goals as goal

pub returns : goal.returns
returns c = few_points_end_segments
