use Rattle.walk_laws.proofs.RunEnds.{few_points_are_found}
use Rattle.walk_laws.proofs.runs.few_points_are_found.Goals as goal

pub returns : goal.returns
returns c = few_points_are_found
