use Rattle.pair_spec.proofs.ExitPlaces.{exit_place_walks}
use Rattle.pair_spec.proofs.pairs.exit_place_walks.Goals as goal

pub returns : goal.returns
returns c = exit_place_walks
