use Rattle.bilv_spec.proofs.PointSteps.{steps_along_edges}
use Rattle.bilv_spec.proofs.points.steps_along_edges.Goals as goal

pub returns : goal.returns
returns c = steps_along_edges
