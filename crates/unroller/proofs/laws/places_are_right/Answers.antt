use Rattle.unroller.proofs.laws.places_are_right.Goals as goal
use Rattle.unroller.proofs.Placed.{places_are_right}

pub returns : goal.returns
returns c = places_are_right
