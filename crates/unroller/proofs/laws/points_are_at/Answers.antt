use Rattle.unroller.proofs.laws.points_are_at.Goals as goal
use Rattle.unroller.proofs.Looked.{points_are_at}

pub returns : goal.returns
returns c = points_are_at
