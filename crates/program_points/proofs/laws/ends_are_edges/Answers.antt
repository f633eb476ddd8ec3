use Rattle.program_points.proofs.Pinned.{are}
use Rattle.program_points.proofs.laws.ends_are_edges.Goals as goal

pub returns : goal.returns
returns c = are
