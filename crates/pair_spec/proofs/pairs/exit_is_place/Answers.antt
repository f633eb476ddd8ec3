use Rattle.pair_spec.proofs.ExitPlace.{exit_is_place}
use Rattle.pair_spec.proofs.pairs.exit_is_place.Goals as goal

pub returns : goal.returns
returns c = exit_is_place
