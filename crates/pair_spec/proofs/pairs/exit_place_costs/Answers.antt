use Rattle.pair_spec.proofs.ExitPlaces.{exit_place_costs}
use Rattle.pair_spec.proofs.pairs.exit_place_costs.Goals as goal

pub returns : goal.returns
returns c = exit_place_costs
