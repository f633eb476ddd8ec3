use Rattle.bilv_spec.proofs.PointOrder.{edges_rise}
use Rattle.bilv_spec.proofs.points.edges_rise.Goals as goal

pub returns : goal.returns
returns c = edges_rise
