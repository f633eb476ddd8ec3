use Rattle.bilv_spec.proofs.PointOrder.{runs_rise}
use Rattle.bilv_spec.proofs.points.runs_rise.Goals as goal

pub returns : goal.returns
returns c = runs_rise
