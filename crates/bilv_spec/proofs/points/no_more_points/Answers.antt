use Rattle.bilv_spec.proofs.AllPoints.{no_more_points}
use Rattle.bilv_spec.proofs.points.no_more_points.Goals as goal

pub returns : goal.returns
returns c = no_more_points
