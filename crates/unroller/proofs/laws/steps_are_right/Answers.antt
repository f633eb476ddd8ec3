use Rattle.unroller.proofs.laws.steps_are_right.Goals as goal
use Rattle.unroller.proofs.Placed.{steps_are_right}

pub returns : goal.returns
returns c = steps_are_right
