use Rattle.bilv_spec.proofs.Ends.{runs_end}
use Rattle.bilv_spec.proofs.points.runs_end.Goals as goal

pub returns : goal.returns
returns c = runs_end
