use Rattle.unroller.proofs.laws.exits_are_returns.Goals as goal
use Rattle.unroller.proofs.EdgeLists.{exits_are_returns}

pub returns : goal.returns
returns c = exits_are_returns
