use Rattle.walk_laws.proofs.RunEnds.{few_points_end_runs}
use Rattle.walk_laws.proofs.runs.few_points_end_runs.Goals as goal

pub returns : goal.returns
returns c = few_points_end_runs
