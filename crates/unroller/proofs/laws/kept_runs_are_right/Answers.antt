use Rattle.unroller.proofs.laws.kept_runs_are_right.Goals as goal
use Rattle.unroller.proofs.KeptRuns.{kept_runs_are_right}

pub returns : goal.returns
returns c = kept_runs_are_right
