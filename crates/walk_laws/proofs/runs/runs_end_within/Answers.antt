use Rattle.walk_laws.proofs.RunEnds.{runs_end_within}
use Rattle.walk_laws.proofs.runs.runs_end_within.Goals as goal

pub returns : goal.returns
returns c = runs_end_within
