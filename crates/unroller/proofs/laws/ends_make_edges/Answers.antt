use Rattle.unroller.proofs.laws.ends_make_edges.Goals as goal
use Rattle.unroller.proofs.EdgeLists.{ends_make_edges}

pub returns : goal.returns
returns c = ends_make_edges
