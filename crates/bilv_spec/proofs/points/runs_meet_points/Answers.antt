use Rattle.bilv_spec.proofs.PointRuns.{runs_meet_points}
use Rattle.bilv_spec.proofs.points.runs_meet_points.Goals as goal

pub returns : goal.returns
returns c = runs_meet_points
