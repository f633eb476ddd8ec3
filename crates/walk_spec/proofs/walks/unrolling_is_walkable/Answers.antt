use Rattle.walk_spec.proofs.Walkable.{unrolling_is_walkable}
use Rattle.walk_spec.proofs.walks.unrolling_is_walkable.Goals as goal

pub returns : goal.returns
returns c = unrolling_is_walkable
