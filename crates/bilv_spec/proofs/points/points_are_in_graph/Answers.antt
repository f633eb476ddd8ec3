use Rattle.bilv_spec.proofs.PointsInGraph.{points_are_in_graph}
use Rattle.bilv_spec.proofs.points.points_are_in_graph.Goals as goal

pub returns : goal.returns
returns c = points_are_in_graph
