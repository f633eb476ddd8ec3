use Rattle.bilv_spec.proofs.AllPoints.{one_price}
use Rattle.bilv_spec.proofs.points.one_price.Goals as goal

pub returns : goal.returns
returns c = one_price
